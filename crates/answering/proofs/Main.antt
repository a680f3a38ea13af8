-- The three demands, as theorems about what the calls promise. Each restates and cites.
--     Checking, Grouping, Thins     what checking, grouping and thinning promise (crates/cutting/specs/Calls), over links lent as bytes or as records
--     Reads, Writes                 what the reader and the writers promise (crates/texts/specs)
--     Answering, ThinsText          what the programs bones and thin print (crates/answering/specs)
-- That each call meets its promise, on every input and without a word to its caller, is the proof of its contract.
-- Assumes nothing.
use Rattle.std.proofs.Common.{ℕ, ◌+◌, ◌*◌, ◌-◌, ◌/◌, ◌%◌, ◌≤◌, ◌<◌, ◌≡◌, ◌↔◌, Bool, true, List, [], ◌∷◌, ◌++◌, length, take, T, Result, Ok, Err}
use mathlib.Core.Logic.{◌⊎◌}
use Rattle.meaning.specs.declared.Link.{Link}
use Rattle.meaning.specs.declared.Refusal.{Refusal}
use Rattle.meaning.specs.Bytes.{Bytes}
use Rattle.meaning.specs.Judge.{Judged, Accepted, first, number_of}
use Rattle.meaning.specs.Room.{over}
use Rattle.meaning.specs.Count.{Bones}
use Rattle.meaning.specs.Tally.{pair_tally, weight}
use Rattle.meaning.specs.Firm.{firm, group, label, groups}
use Rattle.meaning.specs.Heap.{start, pile, piles, Cut, LawfulRun, left, weights, between, finished}
use Rattle.meaning.proofs.Theorems as Rules
use Rattle.links.specs.Links.{table_rows}
use Rattle.cutting.specs.declared.Answer.{Answer}
use Rattle.cutting.specs.Record.{entry_size, cuts_of}
use Rattle.cutting.specs.Names.{names}
use Rattle.cutting.specs.Rows.{checking_rows, grouping_rows}
use Rattle.cutting.specs.Runs.{answer_of, Sound, Stopped, Continued}
use Rattle.cutting.specs.Calls.{kept, Checking, Grouping, Thins}
use Rattle.cutting.proofs.Demands as Demands
use Rattle.texts.specs.declared.Reading.{Reading}
use Rattle.texts.specs.Lines.{lines_of}
use Rattle.texts.specs.Kinds.{head_line, cut_lines, label_lines, close_line, refusal_line}
use Rattle.texts.specs.Reader.{reader_rows, Reads}
use Rattle.texts.specs.Writing.{Writes}
use Rattle.texts.specs.Inputs.{AllInFrames, input_text, input_rows}
use Rattle.texts.specs.Writers.{unnoted}
use Rattle.texts.proofs.Texts as Texts
use Rattle.answering.specs.Prints.{program_rows, ResultText, Answering}
use Rattle.answering.specs.ThinPrints.{thin_printed}
use Rattle.answering.proofs.Theorems as Programs
use Rattle.answering.proofs.Refusing as Refusing

-- ---- 1. Every call ends with a result or a numbered refusal, and a refusal changes no lent byte.

pub accepts_or_refuses : (rows : List Judged) → (first rows ≡ Accepted) ⊎ ((refusal : Refusal) × (first rows ≡ Err refusal))
accepts_or_refuses = Refusing.accepts_or_refuses

module _ (n k : ℕ) (good : Bool) (links : List Link) (bytes labels labels' : List ℕ) (r : Result Answer Refusal) (refusal : Refusal) where
  pub checking_refused : Checking n k good links bytes labels labels' r → first (checking_rows n k good links bytes (length labels)) ≡ Err refusal
      → (r ≡ Err refusal) × (labels' ≡ labels)
  checking_refused = Refusing.checking_refused n k good links bytes labels labels' r refusal

  pub grouping_refused : (space space' : List ℕ) → Grouping n k good links bytes labels labels' space space' r → first (grouping_rows n k good links bytes (length labels) (length space)) ≡ Err refusal
      → (r ≡ Err refusal) × (labels' ≡ labels) × (space' ≡ space)
  grouping_refused = Refusing.grouping_refused n k good links bytes labels labels' r refusal

pub thinning_refused : {A : Type 0} (form : List Link → List A) (rows : List Judged) (n k : ℕ) (links : List Link) (space space' : List A) (r : Result ℕ Refusal) (refusal : Refusal)
    → Thins form rows n (pair_tally links) k links space space' r → first rows ≡ Err refusal → (r ≡ Err refusal) × (space' ≡ space)
thinning_refused form rows n k links = Refusing.thinning_refused form rows n (pair_tally links) k links

pub reading_refused : (text : List ℕ) (links links' : List Link) (space space' : List ℕ) (r : Result Reading Refusal) (refusal : Refusal)
    → Reads text links links' space space' r → first (reader_rows text (length links) (length space)) ≡ Err refusal
    → (r ≡ Err refusal) × (links' ≡ links) × (space' ≡ space)
reading_refused = Refusing.reading_refused

-- both writers, each with its own rows
pub writing_refused : (rows : Judged) (text room room' : List ℕ) (r : Result ℕ Refusal) (refusal : Refusal) → Writes rows text room room' r → rows ≡ Err refusal
    → (r ≡ Err refusal) × (room' ≡ room)
writing_refused = Refusing.writing_refused

-- ---- 2. Labels are exactly the groups, each named by its least bone; every recorded cut shows its side and its true weight, below k.

module _ (n k : ℕ) (links : List Link) where
  pub same_label_lem : (b c : ℕ) → b < n → c < n → (label n (pair_tally links) k b ≡ label n (pair_tally links) k c) ↔ ((S : Bones) × T (S b) × T (S c) × T (firm n (pair_tally links) k S))
  same_label_lem = Rules.same_label_lem n (pair_tally links) k

  pub least_bone : (b : ℕ) → b < n → T (group n (pair_tally links) k b (label n (pair_tally links) k b)) × ((c : ℕ) → T (group n (pair_tally links) k b c) → label n (pair_tally links) k b ≤ c)
  least_bone = Rules.label_is_least n (pair_tally links) k

  pub true_weight : (cs : List Cut) (c : Cut) (ds : List Cut) → LawfulRun n (pair_tally links) k start (cs ++ c ∷ ds)
      → (c.weighs ≡ weight n (pair_tally links) (pile n (left n start cs) c.name) c.side) × (c.weighs < k)
  true_weight = Refusing.cut_shown n (pair_tally links) k

-- links and cuts written as text are read back the same
pub written_then_read : (n k : ℕ) (links : List Link) (bytes room room' : List ℕ) (count : ℕ) → AllInFrames links → Bytes bytes
    → Writes (first (input_rows n k links bytes (length room))) (input_text n k links bytes) room room' (Ok count)
    → (link_space link_space' : List Link) (space space' : List ℕ) (r : Result Reading Refusal) → length links ≤ length link_space → length bytes ≤ length space
    → Reads (take count room') link_space link_space' space space' r
    → (r ≡ Ok (record { n = n; k = k; links = length links; cuts = length bytes / entry_size })) × (link_space' ≡ over link_space 0 links) × (space' ≡ over space 0 bytes)
written_then_read = Texts.written_then_read

-- a text without notes whose contents the writer accepts, read and written again, is the same text
pub read_then_written : (text : List ℕ) (link_space link_space' : List Link) (space space' : List ℕ) (n k l c : ℕ) → Reads text link_space link_space' space space' (Ok (record { n = n; k = k; links = l; cuts = c })) → T (unnoted (lines_of text))
    → (room room' : List ℕ) (r : Result ℕ Refusal)
    → first (input_rows n k (take l link_space') (take (entry_size * c) space') (length room)) ≡ Accepted
    → Writes (first (input_rows n k (take l link_space') (take (entry_size * c) space') (length room))) (input_text n k (take l link_space') (take (entry_size * c) space')) room room' r
    → (r ≡ Ok (length text)) × (room' ≡ over room 0 text)
read_then_written = Texts.read_then_written

-- ---- 3. Any lawful run of cuts, none, some or all, whoever made them, in any order: it is kept, continued and ends at those labels.

module _ (n k : ℕ) (good : Bool) (links : List Link) (judged : first (table_rows n k good links) ≡ Accepted) where
  -- a record is sound where it is whole entries, n − 1 at most, that are a lawful run
  pub kept_and_continued : (bytes labels labels' space space' : List ℕ) (r : Result Answer Refusal) → n ≤ length labels → entry_size * (n - 1) ≤ length space → Sound n (pair_tally links) k bytes
      → Grouping n k good links bytes labels labels' space space' r
      → (r ≡ Ok (answer_of (groups n (pair_tally links) k) true)) × (labels' ≡ over labels 0 (names n (label n (pair_tally links) k))) × Continued n (pair_tally links) k bytes space space'
  kept_and_continued = Demands.kept_and_continued n k good links judged

  -- checking refuses a record exactly if its run is not lawful, at the first entry that is not
  pub judged_by_checking : (bytes labels labels' : List ℕ) (r : Result Answer Refusal) → n ≤ length labels → length bytes % entry_size ≡ 0 → length bytes / entry_size ≤ n - 1
      → Checking n k good links bytes labels labels' r
      → (LawfulRun n (pair_tally links) k start (cuts_of bytes) × (r ≡ Ok (answer_of (piles n (left n start (cuts_of bytes))) (finished n (pair_tally links) k (left n start (cuts_of bytes))))))
      ⊎ ((refusal : Refusal) × (r ≡ Err refusal) × Stopped n (pair_tally links) k start 0 (cuts_of bytes) refusal)
  judged_by_checking = Demands.judged_by_checking n k good links judged

  -- grouping's own record is found finished, and stays as it is when it is grouped again
  module _ (bytes space space' : List ℕ) (c : Continued n (pair_tally links) k bytes space space') where
    abbrev own : List ℕ
    own = Demands.own n k good links judged bytes space space' c

    pub own_checked : (labels labels' : List ℕ) (r : Result Answer Refusal) → n ≤ length labels → Checking n k good links own labels labels' r
        → (r ≡ Ok (answer_of (groups n (pair_tally links) k) true)) × (labels' ≡ over labels 0 (names n (label n (pair_tally links) k)))
    own_checked = Demands.own_checked n k good links judged bytes space space' c

    pub own_stays : (labels labels' room room' : List ℕ) (r : Result Answer Refusal) → n ≤ length labels → entry_size * (n - 1) ≤ length room
        → Grouping n k good links own labels labels' room room' r → take (entry_size * (groups n (pair_tally links) k - 1)) room' ≡ own
    own_stays = Demands.own_stays n k good links judged bytes space space' c

module _ (n k : ℕ) (links : List Link) (cs : List Cut) (lawful : LawfulRun n (pair_tally links) k start cs) where
  -- a finished run has one cut fewer than groups, and its weights add up to the tally between bones of different groups
  pub cuts_and_groups : 0 < n → T (finished n (pair_tally links) k (left n start cs)) → length cs + 1 ≡ groups n (pair_tally links) k
  cuts_and_groups some = Rules.cuts_and_groups n (pair_tally links) k some cs lawful

  pub weights-between : T (finished n (pair_tally links) k (left n start cs)) → weights cs ≡ between n (pair_tally links) (label n (pair_tally links) k)
  weights-between = Rules.weights-between n (pair_tally links) k (Rules.links_symmetric links) cs lawful

  -- wherever a lawful run stops, no group has been divided; finished or not, it can be continued
  pub none_divided : (b c : ℕ) → b < n → c < n → label n (pair_tally links) k b ≡ label n (pair_tally links) k c → left n start cs b ≡ left n start cs c
  none_divided = Rules.none_divided n (pair_tally links) k cs lawful

  pub can_finish : 0 < n → (ds : List Cut) × LawfulRun n (pair_tally links) k start (cs ++ ds) × T (finished n (pair_tally links) k (left n start (cs ++ ds)))
  can_finish some = Rules.can_finish n (pair_tally links) k some (Rules.links_symmetric links) cs lawful

-- ---- The programs. Where nothing is refused, bones prints head, cuts, the label of each bone and close; of it only which cuts were added is free.

module _ (n k : ℕ) (links : List Link) (given : List ℕ) (some_bones : 0 < n) where
  pub bones_prints : (text : List ℕ) (r : ResultText n k links given text)
      → text ≡ head_line n k ++ cut_lines (groups n (pair_tally links) k - 1) r.bytes ++ label_lines n (label n (pair_tally links) k) ++ close_line (groups n (pair_tally links) k + n)
  bones_prints = Programs.settled_but_cuts n k links given some_bones

pub bones_refused : (input out out' : List ℕ) (r : Result ℕ Refusal) (a : Answering input out out' r) (refusal : Refusal) → first (program_rows input) ≡ Err refusal → a.text ≡ refusal_line (number_of refusal.row) refusal.place
bones_refused = Refusing.bones_refused

-- thin prints head, the links whose ends share a group, and close
pub thin_prints : (n k : ℕ) (links : List Link) → thin_printed Accepted n k links ≡ input_text n k (kept n (pair_tally links) k links) []
thin_prints = Refusing.thin_accepted

pub thin_refused : (n k : ℕ) (links : List Link) (refusal : Refusal) → thin_printed (Err refusal) n k links ≡ refusal_line (number_of refusal.row) refusal.place
thin_refused = Refusing.thin_refused
