-- Laws of the frame at the front of what is left of a text, as the reader finds it: its size, its sum, and the three together.
-- Assumes nothing.
use Prim.Native.Nat.{ℕ, ◌+◌, ◌*◌, ◌-◌, ◌%◌, ◌≤◌, ◌<◌}
use mathlib.Core.Path.{◌≡◌, refl, sym, ◌∙◌, ap, subst}
use mathlib.Core.Logic.{⊎_elim, ◌⊎◌, inl, inr}
use mathlib.Core.Bool.{Bool, true, false, not, ◌||◌, cond, true≢false}
use Rattle.std.proofs.Common.{Option, Some, None, SomeIff, unwrap_or}
use mathlib.Core.List.{List}
use native.Mathlib.Omega.{arith}
use lib.Dec.{T, eqb, ltb, lt→ltb, T_not, leb}
use borrow.Author.Tests.{lt-leb, le-leb}
use lib.ListN.{length, get_or, take, drop, length-drop}
use lib.Seq.{take_all}
use Rattle.meaning.proofs.Tests.{both, is_true, eq→eqb}
use Rattle.frames.specs.Frame.{payloads, is_kind, byte_sum, is_hex, bytes_of, value_of}
use Rattle.frames.specs.Characters.{pair_of, kind_of, feed_at}
use Rattle.frames.specs.declared.kind.Kind.{Kind}
use Rattle.frames.specs.declared.kind.Kind.TheVariants.{Head, Link, Cut, Label, Note, Close, Refusal}
use Rattle.frames.specs.Kinds.{number_of}
use Rattle.texts.specs.Walk.{byte_at, digits_at, size_at, Well, LineAt, FrameAt}
use Rattle.frames.proofs.Frames.{chosen, sum_snoc, pair_digits}
use Rattle.frames.proofs.Characters.{kind_bounds, feed_told}
use Rattle.texts.proofs.Lines.{bytes_of_snoc, hex_snoc, hex_at, pair_digits_at, pair_byte_at, byte_at_bound, values_at}

-- the first i pairs are digits, and the bytes that they mean have that sum
pub record Added (cs : List ℕ) (i s : ℕ) : Type 0 where
  pub digits : T (is_hex (take (2 * i) cs))
  pub sum : s ≡ byte_sum (bytes_of (take (2 * i) cs))

pub added_none : (cs : List ℕ) → Added cs 0 0
unfolding is_hex bytes_of byte_sum
added_none cs = record { digits = tt; sum = refl }

pub added_more : (cs : List ℕ) (i s byte r : ℕ) → 2 * i + 2 ≤ length cs → Added cs i s
    → byte ≡ pair_of (get_or cs (2 * i) 0) (get_or cs (2 * i + 1) 0) → byte < 256 → r ≡ (s + byte) % 256 → Added cs (i + 1) r
added_more cs i s byte r n a e h total =
    let t = pair_digits_at cs i (subst (λ (x : ℕ). x < 256) e h) in
    let twice : 2 * (i + 1) ≡ 2 * i + 2 = omega arith in
    record {
      digits = rw twice (hex_snoc cs i n a.digits t);
      sum = rw (twice, bytes_of_snoc cs i n, sum_snoc) (omega (arith, pair_byte_at cs i t, a.sum));
    }

-- after the first i pairs: their sum where they are all digits, and whether some are not
pub record Adding (cs : List ℕ) (size i sum : ℕ) (bad : Bool) : Type 0 where
  pub good : bad ≡ false → Added cs i sum
  pub broken : bad ≡ true → T (is_hex (take (2 * size) cs)) → ⊥

pub adding_none : (cs : List ℕ) (size : ℕ) → Adding cs size 0 0 false
adding_none cs size = record { good = λ e. added_none cs; broken = λ e. absurd (true≢false (sym e)) }

-- the digit that a character is, and 16 or more for what is none
pub digit_told : (c : ℕ) (digit : Option ℕ) (r : ℕ) → SomeIff digit (value_of c < 16) (value_of c) → r ≡ unwrap_or digit 16
    → ((r < 16) × (r ≡ value_of c)) ⊎ ((16 ≤ r) × (16 ≤ value_of c))
digit_told c (Some v) r e q = inl (omega (arith, e.0, e.1), q ∙ e.1)
digit_told c None r e q = inr (omega arith, omega (arith, e))

pub adding_more : (cs : List ℕ) (size i sum : ℕ) (bad : Bool) (h l r : ℕ) → 2 * size ≤ length cs → i < size
    → Adding cs size i sum bad
    → ((h < 16) × (h ≡ value_of (get_or cs (2 * i) 0))) ⊎ ((16 ≤ h) × (16 ≤ value_of (get_or cs (2 * i) 0)))
    → ((l < 16) × (l ≡ value_of (get_or cs (2 * i + 1) 0))) ⊎ ((16 ≤ l) × (16 ≤ value_of (get_or cs (2 * i + 1) 0)))
    → r ≡ (sum + (h * 16 % 256 + l) % 256) % 256
    → Adding cs size (i + 1) r (bad || (leb 16 h || leb 16 l))
adding_more cs size i sum true h l r room less a p q total =
    record { good = λ z. absurd (true≢false z); broken = λ z. a.broken refl }
adding_more cs size i sum false h l r room less a (inl p) (inl q) total =
    rw (lt-leb 16 h p.0, lt-leb 16 l q.0)
    (record {
      good = λ z.
          added_more cs i sum _ r (omega arith) (a.good refl) (sym (pair_digits (get_or cs (2 * i) 0) (get_or cs (2 * i + 1) 0) (omega arith) (omega arith)))
          (omega arith) (omega arith);
      broken = λ z. absurd (true≢false (sym z));
    })
adding_more cs size i sum false h l r room less a (inl p) (inr q) total =
    rw (lt-leb 16 h p.0, le-leb 16 l q.0)
    (record {
      good = λ z. absurd (true≢false z);
      broken = λ z t. omega (arith, q.1, values_at cs i (hex_at cs i size (omega arith) t less));
    })
adding_more cs size i sum false h l r room less a (inr p) q total =
    rw (le-leb 16 h p.0)
    (record {
      good = λ z. absurd (true≢false z);
      broken = λ z t. omega (arith, p.1, values_at cs i (hex_at cs i size (omega arith) t less));
    })

pub size_least : (cs : List ℕ) → 2 ≤ size_at cs
unfolding size_at
size_least cs = omega arith

-- how many bytes a frame has, by its kind
pub size_of : (cs : List ℕ) (k : ℕ) → byte_at cs 0 ≡ k → size_at cs ≡ get_or payloads k 0 + 2
unfolding size_at
size_of cs k e = ap (λ (x : ℕ). get_or payloads x 0 + 2) e

-- the pairs of a well formed line are digits, and stand within the text
pub well_digits : (cs : List ℕ) → Well cs → (i : ℕ) → i < size_at cs → T (digits_at cs i)
well_digits cs w i h = hex_at cs i (size_at cs) (omega (arith, w.room)) w.digits h

pub well_room : (text : List ℕ) (at : ℕ) → Well (drop at text) → at + 2 * size_at (drop at text) < length text
well_room text at w = omega (arith, w.room, length-drop at text)

pub within : (cs : List ℕ) (k : ℕ) → Well cs → byte_at cs 0 ≡ k → (i : ℕ) → i < get_or payloads k 0 + 2 → (2 * i + 2 ≤ length cs) × T (digits_at cs i)
within cs k w e i h =
    let s = size_of cs k e in
    (omega (arith, w.room), well_digits cs w i (omega arith))

-- a slice from a place on is what is left of a text there
pub left_is : (text : List ℕ) (at : ℕ) → take (length text - at) (drop at text) ≡ drop at text
left_is text at = take_all (length text - at) (drop at text) (omega (arith, length-drop at text))

-- the byte that a pair of digits means
pub byte_told : (cs : List ℕ) (i : ℕ) (byte : Option ℕ) (r : ℕ)
    → SomeIff byte (pair_of (get_or cs (2 * i) 0) (get_or cs (2 * i + 1) 0) < 256) (pair_of (get_or cs (2 * i) 0) (get_or cs (2 * i + 1) 0))
    → r ≡ unwrap_or byte 0 → T (digits_at cs i) → r ≡ byte_at cs i
byte_told cs i (Some b) r e q t = q ∙ e.1 ∙ pair_byte_at cs i t
byte_told cs i None r e q t = absurd (e (omega (arith, pair_byte_at cs i t, byte_at_bound cs i t)))

-- a line feed stands at the end of a well formed line
pub well_feed : (cs : List ℕ) (size : ℕ) → Well cs → size ≡ size_at cs → T (feed_at cs size)
unfolding feed_at
well_feed cs size w e =
    subst (λ (n : ℕ). T (feed_at cs n)) (sym e)
    (both (ltb (2 * size_at cs) (length cs)) (eqb (get_or cs (2 * size_at cs) 0) 10) (lt→ltb (2 * size_at cs) (length cs) w.room)
    (eq→eqb (get_or cs (2 * size_at cs) 0) 10 w.feed))

-- a kind has a number, which is no nought
pub some_number : (kind : Kind) → T (is_kind (number_of kind))
unfolding is_kind
some_number Head = tt
some_number Link = tt
some_number Cut = tt
some_number Label = tt
some_number Note = tt
some_number Close = tt
some_number Refusal = tt

-- the kind of the frame
module _ (cs : List ℕ) where
  abbrev first-pair : ℕ
  first-pair = pair_of (get_or cs 0 0) (get_or cs 1 0)

  abbrev pub first-kind : ℕ
  first-kind = kind_of (get_or cs 0 0) (get_or cs 1 0)

  -- where the first characters mean a kind, it is the first byte
  pub kind_below : (kind : Kind) → number_of kind ≡ first-kind → number_of kind ≡ byte_at cs 0
  unfolding kind_of
  kind_below kind e =
      let some = kind_bounds (number_of kind) (some_number kind) in
      ⊎_elim
      (λ w.
      let p : number_of kind ≡ first-pair = e ∙ w.1 in
      p ∙ pair_byte_at cs 0 (pair_digits_at cs 0 (subst (λ (x : ℕ). x < 256) p (omega (arith, some)))))
      (λ w. absurd (omega (arith, some, e ∙ w.1)))
      (chosen (is_kind first-pair) first-pair 0)

  -- in front of a well formed line stands its kind
  pub kind_front : Well cs → first-kind ≡ byte_at cs 0
  unfolding kind_of
  kind_front w =
      let d = hex_at cs 0 (size_at cs) (omega (arith, w.room)) w.digits (omega (arith, size_least cs)) in
      let q : first-pair ≡ byte_at cs 0 = pair_byte_at cs 0 d in
      ap (λ (b : Bool). cond b first-pair 0) (is_true (is_kind first-pair) (subst (λ (x : ℕ). T (is_kind x)) (sym q) w.kind)) ∙ q

  pub kind_well : Well cs → (1 ≤ first-kind) × (first-kind < 8) × (get_or payloads first-kind 0 + 2 ≡ size_at cs)
  kind_well w =
      let b = kind_bounds (byte_at cs 0) w.kind in
      (omega (arith, kind_front w, b.0), omega (arith, kind_front w, b.1), sym (size_of cs first-kind (sym (kind_front w))))

  -- the line, by the line feed behind its frame
  module _ (kind : Kind) (e : number_of kind ≡ first-kind) (size : ℕ) (s : size ≡ get_or payloads (number_of kind) 0 + 2) where
    size_is : size ≡ size_at cs
    unfolding size_at
    size_is = s ∙ ap (λ (x : ℕ). get_or payloads x 0 + 2) (kind_below kind e)

    pub line_found : T (feed_at cs size) → LineAt cs kind size
    line_found t =
        let feed = feed_told cs size t in
        record { kind_is = kind_below kind e; size_is = size_is; room = feed.0; feed = feed.1 }

    pub no_feed : T (not (feed_at cs size)) → Well cs → ⊥
    no_feed t w = T_not (feed_at cs size) t (well_feed cs size w size_is)

-- the frame, from its line and its sum
module _ (cs : List ℕ) (kind : Kind) (size : ℕ) (l : LineAt cs kind size) where
  digits_is : T (is_hex (take (2 * size_at cs) cs)) → T (is_hex (take (2 * size) cs))
  digits_is t = subst (λ (n : ℕ). T (is_hex (take (2 * n) cs))) (sym l.size_is) t

  pub no_digits : (T (is_hex (take (2 * size) cs)) → ⊥) → Well cs → ⊥
  no_digits f w = f (digits_is w.digits)

  pub frame_found : (sum : ℕ) → T (is_hex (take (2 * size) cs)) × (sum ≡ byte_sum (bytes_of (take (2 * size) cs)))
      → FrameAt cs (record { size = size; kind = kind; sum = sum })
  frame_found sum t =
      record {
        well =
            record {
              kind = subst (λ (x : ℕ). T (is_kind x)) l.kind_is (some_number kind);
              digits = subst (λ (n : ℕ). T (is_hex (take (2 * n) cs))) l.size_is t.0;
              room = subst (λ (n : ℕ). 2 * n < length cs) l.size_is l.room;
              feed = subst (λ (n : ℕ). get_or cs (2 * n) 0 ≡ 10) l.size_is l.feed;
            };
        size = l.size_is;
        kind = l.kind_is;
        sum = t.1 ∙ ap (λ (n : ℕ). byte_sum (bytes_of (take (2 * n) cs))) l.size_is;
      }
