-- The bench cases marked P: a test that the checker computes over the table, and one law that turns it into what each row claims. A row is
-- tested on a run of cuts: each is lawful, the names that they leave are the row's labels, and every pile is firm.
-- Assumes nothing.
use Prim.Native.Nat.{ℕ, zero, suc, ◌+◌, ◌<◌}
use mathlib.Core.Path.{◌≡◌, refl, sym, ◌∙◌, ap, subst}
use mathlib.Core.Logic.{⊎_elim}
use mathlib.Core.Bool.{Bool, true, false, not, ◌&&◌, ◌||◌}
use mathlib.Core.List.Memᴰ
use mathlib.Core.List.{List, [], ◌∷◌, Memᴰ}
use lib.Dec.{T, eqb, ltb, eqb→eq, ltb→lt, T_not}
use lib.ListN.{length, get_or}
use Rattle.meaning.specs.Count.{Bones, sum, some, every, least, every_set}
use Rattle.meaning.specs.Tally.{Tally, joins, pair_tally, total, weight}
use Rattle.meaning.specs.Firm.{splits, firm, groups}
use Rattle.meaning.specs.Heap.{Heap, start, pile, stands, Cut, Lawful, parted, LawfulRun, left, weights, finished}
use Rattle.meaning.specs.Cases.{Settled, Thresholds, only, any, At, Case, triangles, three_paths, cases, Bench}
use Rattle.meaning.proofs.Tests.{left_of, right_of, either, ◌⇒◌, imp, taut, so, ◌⊃◌}
use Rattle.meaning.proofs.Sets.{every_intro, every_elim, every_set_elim}
use Rattle.meaning.proofs.Firm.{splits_same, firm_intro}
use Rattle.meaning.proofs.Tallies.{pair_tally_symmetric}
use Rattle.meaning.proofs.Ends.{names_are_labels, cuts_and_groups, weights-between}

-- ---- the test

-- a weight below k, and a heap finished, at each threshold k of a row: where k may be any, no weight is below it, and no pile may split
light : Thresholds → ℕ → Bool
light (only t) m = ltb m t
light any m = false

unsplit : ℕ → Bones → Bool
unsplit n S = every_set n (λ A. not (splits n S A))

finished_test : ℕ → Tally → Thresholds → Heap → Bool
finished_test n w (only t) h = finished n w t h
finished_test n w any h = every n (λ p. not (stands n h p) || unsplit n (pile n h p))

-- the bones of a list; whether all of them are in a set
among : List ℕ → Bones
among [] b = false
among (x ∷ xs) b = eqb b x || among xs b

inside : Bones → List ℕ → Bool
inside X [] = true
inside X (x ∷ xs) = X x && inside X xs

-- a cut by the pile that it names and the bones that it moves; as a cut of a heap it states their weight there
record Move : Type 0 where
  pub pile_name : ℕ
  pub moved : List ℕ

abbrev move : ℕ → List ℕ → Move
move p xs = record { pile_name = p; moved = xs }

cut : ℕ → Tally → Heap → Move → Cut
cut n w h m = record { name = m.pile_name; weighs = weight n w (pile n h m.pile_name) (among m.moved); side = among m.moved }

cuts : ℕ → Tally → Heap → List Move → List Cut
cuts n w h [] = []
cuts n w h (m ∷ ms) = cut n w h m ∷ cuts n w (parted n h (cut n w h m)) ms

-- every test of a list passes
all : List Bool → Bool
all [] = true
all (b ∷ bs) = b && all bs

-- the tests of a cut, of a run, of a row and its run, and of the table
cut_tests : ℕ → Tally → Thresholds → Heap → Move → List Bool
cut_tests n w t h m =
    let p = m.pile_name in
    let A = among m.moved in
    stands n h p ∷ some n A ∷ not (A p) ∷ inside (pile n h p) m.moved ∷ light t (weight n w (pile n h p) A) ∷ []

run_test : ℕ → Tally → Thresholds → Heap → List Move → Bool
run_test n w t h [] = true
run_test n w t h (m ∷ ms) = all (cut_tests n w t h m) && run_test n w t (parted n h (cut n w h m)) ms

row_tests : Case → List Move → List Bool
row_tests c ms =
    let n = c.bones in
    let w = pair_tally c.links in
    let cs = cuts n w start ms in
    let h = left n start cs in
    ltb 0 n
    ∷ eqb (length c.labels) n
    ∷ every n (λ b. eqb (h b) (get_or c.labels b n))
    ∷ eqb (length cs + 1) c.number
    ∷ eqb (weights cs) c.cut_sum
    ∷ run_test n w c.thresholds start ms
    ∷ finished_test n w c.thresholds h
    ∷ []

-- the `let` waits: a row that fails stops the test
table_test : List Case → List (List Move) → Bool
table_test [] runs = true
table_test (c ∷ cs) [] = false
table_test (c ∷ cs) (ms ∷ runs) = let rest = table_test cs runs in all (row_tests c ms) && rest

-- a run for each row
case_runs : List (List Move)
case_runs =
    []
    ∷ (move 0 (1 ∷ []) ∷ [])
    ∷ []
    ∷ (move 0 (1 ∷ []) ∷ [])
    ∷ []
    ∷ []
    ∷ (move 0 (3 ∷ 4 ∷ 5 ∷ []) ∷ [])
    ∷ (move 0 (3 ∷ 4 ∷ 5 ∷ []) ∷ move 0 (1 ∷ []) ∷ move 0 (2 ∷ []) ∷ move 3 (4 ∷ []) ∷ move 3 (5 ∷ []) ∷ [])
    ∷ []
    ∷ (move 0 (1 ∷ []) ∷ move 0 (2 ∷ 3 ∷ 4 ∷ 5 ∷ []) ∷ move 2 (4 ∷ []) ∷ move 2 (5 ∷ []) ∷ [])
    ∷ []
    ∷ (move 0 (2 ∷ []) ∷ move 0 (3 ∷ []) ∷ move 0 (4 ∷ []) ∷ move 0 (1 ∷ []) ∷ [])
    ∷ []

computed : T (table_test cases case_runs)
unfolding table_test row_tests run_test cut_tests all cases case_runs triangles three_paths light unsplit finished_test finished firm among inside cut cuts pair_tally joins total weight sum some every least every_set splits start pile stands parted left weights
computed = tt

-- ---- what the test shows

-- where all tests of a list pass, each does
passed : (bs : List Bool) → T (all bs) → (i : ℕ) → T (get_or bs i true)
unfolding all
passed [] u i = tt
passed (b ∷ bs) u zero = left_of b (all bs) u
passed (b ∷ bs) u (suc i) = passed bs (right_of b (all bs) u) i

light_at : (t : Thresholds) (k m : ℕ) → At t k → T (light t m) → m < k
unfolding At light
light_at (only t) k m e u = subst (λ (x : ℕ). m < x) (sym e) (ltb→lt m t u)
light_at any k m e u = absurd u

inside_at : (X : Bones) (xs : List ℕ) → T (inside X xs) → (b : ℕ) → T (among xs b) → T (X b)
unfolding inside among
inside_at X [] u b v = absurd v
inside_at X (x ∷ xs) u b v =
    ⊎_elim
    (λ e. subst (λ (y : ℕ). T (X y)) (sym (eqb→eq b x e)) (left_of (X x) (inside X xs) u))
    (λ r. inside_at X xs (right_of (X x) (inside X xs) u) b r)
    (either (eqb b x) (among xs b) v)

unsplit_firm : (n : ℕ) (w : Tally) (k : ℕ) (S : Bones) → T (unsplit n S) → T (firm n w k S)
unfolding unsplit
unsplit_firm n w k S u =
    firm_intro n w k S
    (λ A s. absurd (T_not (splits n S A) (every_set_elim n _ (λ A B e. ap not (splits_same n S S A B (λ b l. refl) e)) u A) s))

finished_at : (n : ℕ) (w : Tally) (t : Thresholds) (k : ℕ) → At t k → (h : Heap) → T (finished_test n w t h) → T (finished n w k h)
unfolding At finished_test finished
finished_at n w (only t) k e h u = subst (λ (x : ℕ). T (finished n w x h)) (sym e) u
finished_at n w any k e h u =
    every_intro n _
    (λ p l. let S = pile n h p in
    taut 3 (λ s x y. (x ⇒ y) ⊃ (not s || x) ⊃ so (not s || y)) tt (stands n h p) (unsplit n S) (firm n w k S)
    (imp (unsplit n S) (firm n w k S) (unsplit_firm n w k S)) (every_elim n _ u p l))

module _ (n : ℕ) (w : Tally) (t : Thresholds) (k : ℕ) (a : At t k) where
  cut_lawful : (h : Heap) (m : Move) → T (all (cut_tests n w t h m)) → Lawful n w k h (cut n w h m)
  unfolding cut_tests cut
  cut_lawful h m u =
      let test = passed (cut_tests n w t h m) u in
      record {
        standing = test 0;
        moving = test 1;
        staying = test 2;
        within = inside_at (pile n h m.pile_name) m.moved (test 3);
        true_weight = refl;
        light = light_at t k _ a (test 4);
      }

  run_lawful : (ms : List Move) (h : Heap) → T (run_test n w t h ms) → LawfulRun n w k h (cuts n w h ms)
  unfolding run_test cuts LawfulRun
  run_lawful [] h u = tt
  run_lawful (m ∷ ms) h u =
      let one = all (cut_tests n w t h m) in
      let rest = run_test n w t (parted n h (cut n w h m)) ms in
      (cut_lawful h m (left_of one rest u), run_lawful ms (parted n h (cut n w h m)) (right_of one rest u))

-- what the table claims of a row
abbrev Claimed : Case → Type 0
Claimed c = (k : ℕ) → At c.thresholds k → Settled c.bones (pair_tally c.links) k c.labels c.number c.cut_sum

row_settled : (c : Case) (ms : List Move) → T (all (row_tests c ms)) → Claimed c
unfolding row_tests
row_settled c ms u k a =
    let n = c.bones in
    let w = pair_tally c.links in
    let s = pair_tally_symmetric c.links in
    let cs = cuts n w start ms in
    let h = left n start cs in
    let test = passed (row_tests c ms) u in
    let some-bone : 0 < n = ltb→lt 0 n (test 0) in
    let run : LawfulRun n w k start cs = run_lawful n w c.thresholds k a ms start (test 5) in
    let done : T (finished n w k h) = finished_at n w c.thresholds k a h (test 6) in
    let number : groups n w k ≡ c.number = sym (cuts_and_groups n w k some-bone cs run done) ∙ eqb→eq (length cs + 1) c.number (test 3) in
    record {
      each_bone = eqb→eq (length c.labels) n (test 1);
      labelled = λ b l. sym ((names_are_labels n w k cs run).1 done b l) ∙ eqb→eq (h b) (get_or c.labels b n) (every_elim n _ (test 2) b l);
      grouped = number;
      a_run = (cs, run, done);
      every_run = λ ds r f. (
        cuts_and_groups n w k some-bone ds r f ∙ number,
        weights-between n w k s ds r f ∙ sym (weights-between n w k s cs run done) ∙ eqb→eq (weights cs) c.cut_sum (test 4),
      );
    }

table_settled : (cs : List Case) (runs : List (List Move)) → T (table_test cs runs) → (c : Case) → Memᴰ c cs → Claimed c
unfolding table_test
table_settled [] runs u c i = absurd (Memᴰ.not-nil i)
table_settled (d ∷ cs) [] u c i = absurd u
table_settled (d ∷ cs) (ms ∷ runs) u c i =
    let one = all (row_tests d ms) in
    let rest = table_test cs runs in
    ⊎_elim
    (λ e. subst Claimed (sym e) (row_settled d ms (left_of one rest u)))
    (λ j. table_settled cs runs (right_of one rest u) c j)
    (Memᴰ.cases_cons i)

pub bench : Bench
unfolding Bench
bench = table_settled cases case_runs computed
