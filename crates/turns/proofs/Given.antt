-- What a caller has of a call that hands back a value or a refusal, where the number of its answer is 0.
-- Assumes nothing.
use mathlib.Core.Path.{◌≡◌, refl, sym, ap, ◌∙◌}
use mathlib.Core.Bool.{Bool, true, false, cond}
use lib.Dec.{eqb}
use Rattle.std.specs.Prelude.{Result, Ok, Err, IsOk}
use Rattle.std.specs.Result.{result_unwrap_or}
use borrow.Author.Tests.{eqb-true}
use Rattle.params.specs.declared.Params.{Params}
use Rattle.params.specs.Refusal.{Answer}
use Rattle.params.specs.declared.refusal.Refusal.{Refusal}
use Rattle.params.specs.declared.refusal.Refusal.TheVariants.{Parameters}
use Rattle.params.specs.Refusal.{given, refusal_at, unless}
use Rattle.params.specs.Ranges.{params_number, checked}
use Rattle.params.proofs.Answers.{given_done}

module _ {A : Type 0} (a : Answer) (v : A) {r : Result A Refusal} (e : r ≡ given a v) where
  -- it hands back a value
  pub is_given : a.number ≡ 0 → IsOk r
  is_given z = rw (e ∙ given_done a v z) refl

  -- and no other than that one
  pub value_is : {x : A} → a.number ≡ 0 → r ≡ Ok x → x ≡ v
  value_is z o = ap (λ q. result_unwrap_or q v) (sym o ∙ e ∙ given_done a v z)

-- of two values the same
pub ok_same : {A : Type 0} {x y : A} → ◌≡◌ {A = Result A Refusal} (Ok x) (Ok y) → x ≡ y
ok_same {x = x} e = ap (λ r. result_unwrap_or r x) e

-- a refusal's number is not 0
pub number_refused : {A : Type 0} (a : Answer) (v : A) {s : Refusal} → given a v ≡ Err s → a.number ≡ 0 → ⊥
number_refused {A = A} a v {s = s} e z = absurd (let h : ◌≡◌ {A = Result A Refusal} (Ok v) (Err s) = sym (given_done a v z) ∙ e in cc)

-- a refusal does not depend on the value
pub refused_alike : {A B : Type 0} (a : Answer) (v : A) (w : B) {s : Refusal} → given a v ≡ Err s → given a w ≡ Err s
refused_alike {A = A} {B = B} a v w {s = s} e = go (eqb a.number 0) e
  where
    go : (b : Bool) → ◌≡◌ {A = Result A Refusal} (cond b (Ok v) (Err (refusal_at a.number a.place))) (Err s) → ◌≡◌ {A = Result B Refusal} (cond b (Ok w) (Err (refusal_at a.number a.place))) (Err s)
    go true h = absurd cc
    go false h = let q : refusal_at a.number a.place ≡ s = cc in ap Err q

-- what the check of parameters hands back is those parameters
pub checked_is : (p : Params) {c : Params} → ◌≡◌ {A = Result Params Refusal} (Ok c) (checked p) → (c ≡ p) × (params_number p ≡ 0)
checked_is p {c = q} e = go (eqb (params_number p) 0) refl e
  where
    go : (b : Bool) → eqb (params_number p) 0 ≡ b → ◌≡◌ {A = Result Params Refusal} (Ok q) (unless b Parameters (Ok p)) → (q ≡ p) × (params_number p ≡ 0)
    go true t h = (ap (λ r. result_unwrap_or r p) h, eqb-true _ _ t)
    go false t h = absurd cc
