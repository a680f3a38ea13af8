-- Laws of `group` and `label`: a group is the largest firm set of its bone, groups part the bones, and the label is the group's least bone.
-- Assumes nothing.
use Prim.Native.Nat.{ℕ, zero, suc, ◌≤◌, ◌<◌}
use mathlib.Core.Path.{◌≡◌, sym, ap₂, subst}
use mathlib.Core.Logic.{⊎_elim}
use mathlib.Core.Bool.{not, ◌&&◌}
use native.Mathlib.Omega.{arith}
use lib.Dec.{T, eqb, eqb→eq, eqb_refl}
use Rattle.meaning.specs.Count.{Bones}
use Rattle.meaning.specs.Tally.{Tally}
use Rattle.meaning.specs.Firm.{firm, group, label}
use Rattle.meaning.proofs.Tests.{both, left_of, right_of, or_left, or_right, decide, same_test}
use Rattle.meaning.proofs.Sets.{Looks, some_set_intro, some_set_elim, least_in, least_same}
use Rattle.meaning.proofs.Firm.{Within, ◌∪◌, firm_same, firm-lone, firm_union}

module _ (n : ℕ) (w : Tally) (k : ℕ) where
  -- some firm set holds both bones
  pub record Together (b c : ℕ) : Type 0 where
    pub set : Bones
    pub b_bone : b < n
    pub c_bone : c < n
    pub b_in : T (set b)
    pub c_in : T (set c)
    pub is_firm : T (firm n w k set)

  looks_at : (b c : ℕ) → b < n → c < n → Looks n (λ S. (S b && S c) && firm n w k S)
  looks_at b c hb hc S S' e =
      ap₂ ◌&&◌ (ap₂ ◌&&◌ (e b hb) (e c hc)) (same_test (firm n w k S) (firm n w k S') (firm_same n w k S S' e) (firm_same n w k S' S (λ d h. sym (e d h))))

  pub group_intro : (b c : ℕ) → Together b c → T (group n w k b c)
  unfolding group
  group_intro b c s =
      some_set_intro n _ (looks_at b c s.b_bone s.c_bone) s.set
      (both (s.set b && s.set c) (firm n w k s.set) (both (s.set b) (s.set c) s.b_in s.c_in) s.is_firm)

  pub group_elim : (b c : ℕ) → T (group n w k b c) → Together b c
  unfolding group
  group_elim b c t =
      let r = some_set_elim n (λ S. (S b && S c) && firm n w k S) t in
      let S = r.0 in
      let in_both = left_of (S b && S c) (firm n w k S) r.2 in
      record {
        set = S;
        b_bone = r.1 b (left_of (S b) (S c) in_both);
        c_bone = r.1 c (right_of (S b) (S c) in_both);
        b_in = left_of (S b) (S c) in_both;
        c_in = right_of (S b) (S c) in_both;
        is_firm = right_of (S b && S c) (firm n w k S) r.2;
      }

  pub group_self : (b : ℕ) → b < n → T (group n w k b b)
  group_self b h =
      group_intro b b
      (record { set = λ c. eqb c b; b_bone = h; c_bone = h; b_in = eqb_refl b; c_in = eqb_refl b; is_firm = firm-lone n w k b })

  pub group-sym : (b c : ℕ) → T (group n w k b c) → T (group n w k c b)
  group-sym b c t =
      let s = group_elim b c t in
      group_intro c b
      (record { set = s.set; b_bone = s.c_bone; c_bone = s.b_bone; b_in = s.c_in; c_in = s.b_in; is_firm = s.is_firm })

  pub group_trans : (b c d : ℕ) → T (group n w k b c) → T (group n w k c d) → T (group n w k b d)
  group_trans b c d t u =
      let s = group_elim b c t in
      let r = group_elim c d u in
      group_intro b d
      (record {
        set = s.set ∪ r.set;
        b_bone = s.b_bone;
        c_bone = r.c_bone;
        b_in = or_left (s.set b) (r.set b) s.b_in;
        c_in = or_right (s.set d) (r.set d) r.c_in;
        is_firm = firm_union n w k s.set r.set c s.c_bone s.c_in r.b_in s.is_firm r.is_firm;
      })

  -- a firm set that holds b lies in b's group
  pub group_largest : (b : ℕ) → b < n → (S : Bones) → T (S b) → T (firm n w k S) → Within n S (group n w k b)
  group_largest b hb S sb f c hc sc =
      group_intro b c (record { set = S; b_bone = hb; c_bone = hc; b_in = sb; c_in = sc; is_firm = f })

  -- a firm set within b's group that holds b and every bone of the group below m
  record Grown (b m : ℕ) : Type 0 where
    pub grown : Bones
    pub b_in : T (grown b)
    pub covers : (c : ℕ) → c < m → T (group n w k b c) → T (grown c)
    pub inside : Within n grown (group n w k b)
    pub is_firm : T (firm n w k grown)

  grow : (b : ℕ) → b < n → (m : ℕ) → Grown b m
  grow b hb zero =
      record {
        grown = λ c. eqb c b;
        b_in = eqb_refl b;
        covers = λ c h. absurd (omega arith);
        inside = λ c h t. subst (λ (d : ℕ). T (group n w k b d)) (sym (eqb→eq c b t)) (group_self b hb);
        is_firm = firm-lone n w k b;
      }
  grow b hb (suc m) = ⊎_elim (λ t. more (grow b hb m) (group_elim b m t)) (λ t. same (grow b hb m) t) (decide (group n w k b m))
    where
      more : Grown b m → Together b m → Grown b (suc m)
      more g s =
          let both-firm = firm_union n w k g.grown s.set b hb g.b_in s.b_in g.is_firm s.is_firm in
          let in-union = or_left (g.grown b) (s.set b) g.b_in in
          record {
            grown = g.grown ∪ s.set;
            b_in = in-union;
            covers = λ c h t. ⊎_elim (λ e. or_right (g.grown c) (s.set c) (subst (λ (d : ℕ). T (s.set d)) (sym e) s.c_in)) (λ l. or_left (g.grown c) (s.set c) (g.covers c l t)) (Rattle.meaning.proofs.Sets.last_or_below m h);
            inside = group_largest b hb (g.grown ∪ s.set) in-union both-firm;
            is_firm = both-firm;
          }

      same : Grown b m → T (not (group n w k b m)) → Grown b (suc m)
      same g f =
          record {
            grown = g.grown;
            b_in = g.b_in;
            covers = λ c h t. ⊎_elim (λ e. absurd (lib.Dec.T_not (group n w k b m) f (subst (λ (d : ℕ). T (group n w k b d)) e t))) (λ l. g.covers c l t) (Rattle.meaning.proofs.Sets.last_or_below m h);
            inside = g.inside;
            is_firm = g.is_firm;
          }

  pub group-firm : (b : ℕ) → b < n → T (firm n w k (group n w k b))
  group-firm b hb =
      let g = grow b hb n in
      firm_same n w k g.grown (group n w k b) (λ c h. same_test (g.grown c) (group n w k b c) (g.inside c h) (g.covers c h)) g.is_firm

  -- the label is in the group, and no bone of the group is less
  pub label_in : (b : ℕ) → b < n → T (group n w k b (label n w k b))
  unfolding label
  label_in b h = (least_in n (group n w k b) b h (group_self b h)).0

  pub label_bone : (b : ℕ) → b < n → label n w k b < n
  label_bone b h = (group_elim b (label n w k b) (label_in b h)).c_bone

  pub label-least : (b c : ℕ) → T (group n w k b c) → label n w k b ≤ c
  unfolding label
  label-least b c t = (least_in n (group n w k b) c (group_elim b c t).c_bone t).1

  -- one group has one label
  pub label_same : (b c : ℕ) → T (group n w k b c) → label n w k b ≡ label n w k c
  unfolding label
  label_same b c t =
      least_same n (group n w k b) (group n w k c)
      (λ d h. same_test (group n w k b d) (group n w k c d) (group_trans c b d (group-sym b c t)) (group_trans b c d t))

  -- one label has one group
  pub label-group : (b c : ℕ) → b < n → c < n → label n w k b ≡ label n w k c → T (group n w k b c)
  label-group b c hb hc e =
      group_trans b (label n w k b) c (label_in b hb)
      (group-sym c (label n w k b) (subst (λ (l : ℕ). T (group n w k c l)) (sym e) (label_in c hc)))
