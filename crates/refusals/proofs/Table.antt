-- Out of a table of refusals and back, once for every routine: a number 0 tells what every check asks, and such facts give 0.
-- Assumes nothing.
use mathlib.Core.Bool.{Bool, true, false, ◌&&◌}
use mathlib.Core.List.{List, [], ◌∷◌, ◌++◌}
use mathlib.Core.Path.{◌≡◌, refl, sym, ap, ◌∙◌}
use Prim.Native.Nat.{ℕ}
use native.Mathlib.Omega.{arith}
use borrow.Author.Tests.{ltb-true, lt-ltb, eqb-true, eq-eqb, leb-true, le-leb}
use lib.Dec.{eqb, ltb}
use Rattle.params.specs.declared.Params.{Params}
use Rattle.params.specs.Refusal.{check}
use Rattle.params.specs.Ranges.{params_number}
use Rattle.params.proofs.Answers.{passed}
use Rattle.refusals.specs.Table.{Check, is, at_most, below, holds, first_of, refusal_by}
use Rattle.refusals.specs.Private.{passes, number_of, Fact, Facts}

-- the numbers of a table are not 0, which computes
abbrev pub numbered : List Check → Bool
numbered [] = true
numbered (c ∷ cs) = ltb 0 (number_of c) && numbered cs

both : (a b : Bool) → (a && b) ≡ true → (a ≡ true) × (b ≡ true)
both true b e = (refl, e)
both false b e = absurd (no e)
  where
    no : false ≡ true → ⊥
    no e = let z : ◌≡◌ {A = ℕ} 0 1 = cc in omega arith

-- one check of a table and those after it
first_of_lem : (c : Check) (cs : List Check) → first_of (c ∷ cs) ≡ check (passes c) (number_of c) (first_of cs)
first_of_lem (is x y n) cs = refl
first_of_lem (at_most x y n) cs = refl
first_of_lem (below x y n) cs = refl
first_of_lem (holds b n) cs = refl

-- ---- what a number 0 tells

fact : (c : Check) → passes c ≡ true → Fact c
fact (is x y n) e = eqb-true x y e
fact (at_most x y n) e = leb-true x y e
fact (below x y n) e = ltb-true x y e
fact (holds b n) e = e

fact_passes : (c : Check) → Fact c → passes c ≡ true
fact_passes (is x y n) e = eq-eqb x y e
fact_passes (at_most x y n) e = le-leb x y e
fact_passes (below x y n) e = lt-ltb x y e
fact_passes (holds b n) e = e

pub facts : (cs : List Check) → numbered cs ≡ true → first_of cs ≡ 0 → Facts cs
facts [] n e = tt
facts (c ∷ cs) n e =
    let m = both _ _ n in
    let s = passed (passes c) (number_of c) (first_of cs) (ltb-true _ _ m.0) (sym (first_of_lem c cs) ∙ e) in
    (fact c s.0, facts cs m.1 s.1)

pub none : (cs : List Check) → Facts cs → first_of cs ≡ 0
none [] f = refl
none (c ∷ cs) f = first_of_lem c cs ∙ ap (λ (b : Bool). check b (number_of c) (first_of cs)) (fact_passes c f.0) ∙ none cs f.1

module _ (p : Params) (checks : List Check) where
  pub good : numbered checks ≡ true → refusal_by p checks ≡ 0 → (params_number p ≡ 0) × Facts checks
  good n e = let s = passed _ 1 (first_of checks) (omega arith) e in (eqb-true _ _ s.0, facts checks n s.1)

  pub done : (params_number p ≡ 0) × Facts checks → refusal_by p checks ≡ 0
  done f = rw (eq-eqb (params_number p) 0 f.0) (none checks f.1)

-- ---- a table in two parts

-- where the first part passes the second decides
pub append_passed : (xs ys : List Check) → numbered xs ≡ true → first_of xs ≡ 0 → first_of (xs ++ ys) ≡ first_of ys
append_passed [] ys n e = refl
append_passed (c ∷ cs) ys n e =
    let m = both _ _ n in
    let s = passed (passes c) (number_of c) (first_of cs) (ltb-true _ _ m.0) (sym (first_of_lem c cs) ∙ e) in
    first_of_lem c (cs ++ ys) ∙ ap (λ (b : Bool). check b (number_of c) (first_of (cs ++ ys))) s.0 ∙ append_passed cs ys m.1 s.1

-- and where it does not, it does
pub append_kept : (xs ys : List Check) → (first_of xs ≡ 0 → ⊥) → first_of (xs ++ ys) ≡ first_of xs
append_kept [] ys h = absurd (h refl)
append_kept (c ∷ cs) ys h = first_of_lem c (cs ++ ys) ∙ go (passes c) (λ k. append_kept cs ys k) (λ e. h (first_of_lem c cs ∙ e)) ∙ sym (first_of_lem c cs)
  where
    go : (b : Bool) → ((first_of cs ≡ 0 → ⊥) → first_of (cs ++ ys) ≡ first_of cs) → (check b (number_of c) (first_of cs) ≡ 0 → ⊥)
        → check b (number_of c) (first_of (cs ++ ys)) ≡ check b (number_of c) (first_of cs)
    go true rest k = rest k
    go false rest k = refl

module _ (p : Params) (checks more : List Check) where
  pub then_more : numbered checks ≡ true → refusal_by p checks ≡ 0 → refusal_by p (checks ++ more) ≡ first_of more
  then_more n e =
      let s = passed (eqb (params_number p) 0) 1 (first_of checks) (omega arith) e in
      ap (λ (b : Bool). check b 1 (first_of (checks ++ more))) s.0 ∙ append_passed checks more n s.1

  pub before_more : (refusal_by p checks ≡ 0 → ⊥) → refusal_by p checks ≡ refusal_by p (checks ++ more)
  before_more h = go (eqb (params_number p) 0) h
    where
      go : (b : Bool) → (check b 1 (first_of checks) ≡ 0 → ⊥) → check b 1 (first_of checks) ≡ check b 1 (first_of (checks ++ more))
      go true k = sym (append_kept checks more k)
      go false k = refl
