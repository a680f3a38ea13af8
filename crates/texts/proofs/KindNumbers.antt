-- Kinds and their numbers: what a cast and a comparison of two kinds tell of them.
-- Assumes nothing.
use denote.Enum.Declared.{tag_of}
use denote.Enum.Bare.{sameb, tag_one, same_true, same_false}
use Rattle.std.proofs.Common.{◌≡◌, ◌+◌, Bool, true, false, refl, sym, ap, ◌∙◌, arith}
use Rattle.frames.specs.declared.kind.Kind.{Kind}
use Rattle.frames.specs.declared.kind.Kind.TheVariants.{Head, Link, Cut, Label, Note, Close, Refusal}
use Rattle.frames.specs.contracts.kind.Kind.{the_type}
use Rattle.frames.specs.Kinds.{number_of}

-- a cast gives the number
pub numbered : (kind : Kind) → tag_of the_type kind + 1 ≡ number_of kind
numbered Head = refl
numbered Link = refl
numbered Cut = refl
numbered Label = refl
numbered Note = refl
numbered Close = refl
numbered Refusal = refl

module _ (a b : Kind) (r : Bool) (e : r ≡ sameb the_type a b) where
  pub same_number : r ≡ true → number_of a ≡ number_of b
  same_number t = ap number_of (same_true the_type tt a b (sym e ∙ t))

  pub other_number : r ≡ false → number_of a ≡ number_of b → ⊥
  other_number f q = same_false the_type a b (sym e ∙ f) (tag_one the_type tt a b (omega (arith, numbered a, numbered b)))
