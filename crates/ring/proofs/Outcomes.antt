-- What a contract leaves open: nothing (01, 'What the contracts owe'). An outcome of a call is its result and what the lent slices hold afterwards; `Determined` says that the
-- contract's own clauses, as `rattle` reads them from the code, allow one outcome at most, and the lemmas below show it for clauses that are equations.
-- Assumes nothing.
use Rattle.std.proofs.Common.{◌≡◌, ℕ, zero, suc, sym, refl, ◌∙◌}
use contract.Lifetimes.{Lfts}
use denote.Triple.Entry.{Args, Res}
use denote.Triple.Clauses.{Ended, AtExit, Lasts, at_exit}

-- two things that are equal to a third coincide
pub coincide : {A : Type 0} {x y v : A} → x ≡ v → y ≡ v → x ≡ y
coincide e f = e ∙ sym f

-- What the `ensures` clauses tell, of the arguments, the result and the parameters at exit: `f.Reads.Learnt`, which `rattle` makes of the routine f.
abbrev pub Claims : Ended → Type 1
Claims T = (κs : Lfts T.signature.lifetimes) → Args T.signature κs → Res T.signature κs → AtExit T κs → Type 0

module _ (T : Ended) (Claim : Claims T) where
  -- Two outcomes of one call that both meet the contract coincide. T is the signature, `f.ended`.
  abbrev pub Determined : Type 0
  Determined =
      (κs : Lfts T.signature.lifetimes) (a : Args T.signature κs) (x y : Res T.signature κs) (v w : Lasts T κs a)
      → Claim κs a x (at_exit T κs a v) → Claim κs a y (at_exit T κs a w) → (x ≡ y) × (v ≡ w)

  -- The same of results of which something is known, or seen: Ok says what the result's type does (`f.Kinds.r.is.Ok`), and see what a caller has of it.
  abbrev pub DeterminedAs : {O : Type 0} → ((κs : Lfts T.signature.lifetimes) → Res T.signature κs → Type 0) → ((κs : Lfts T.signature.lifetimes) → Res T.signature κs → O) → Type 0
  DeterminedAs Ok see =
      (κs : Lfts T.signature.lifetimes) (a : Args T.signature κs) (x y : Res T.signature κs) (v w : Lasts T κs a) → Ok κs x → Ok κs y
      → Claim κs a x (at_exit T κs a v) → Claim κs a y (at_exit T κs a w) → (see κs x ≡ see κs y) × (v ≡ w)

-- What k parameters that no call changes leave behind, nothing, and then B.
abbrev pub After : ℕ → Type 0 → Type 0
After zero B = B
After (suc k) B = Unit {0} × After k B

-- the part after those k
abbrev pub rest : (k : ℕ) {B : Type 0} → After k B → B
rest zero v = v
rest (suc k) v = rest k v.1

pub same_rest : (k : ℕ) {B : Type 0} {v w : After k B} → rest k v ≡ rest k w → v ≡ w
same_rest zero e = e
same_rest (suc k) e = λ i. (tt, same_rest k e i)

module _ {R : Type 0} {x y f : R} where
  -- a result, and nothing is lent
  pub said : {A : Type 0} {v : A} → x ≡ f → y ≡ f → (x ≡ y) × (v ≡ v)
  said p q = (coincide p q, refl)

  -- the answer, and one lent slice after k other parameters
  pub said_written : (k : ℕ) {A : Type 0} {g : A} {v w : After k (A × Unit {0})}
      → (x ≡ f) × ((rest k v).0 ≡ g) → (y ≡ f) × ((rest k w).0 ≡ g) → (x ≡ y) × (v ≡ w)
  said_written k p q = let e = coincide p.1 q.1 in (coincide p.0 q.0, same_rest k (λ i. (e i, tt)))

  -- the answer, and two lent slices after k other parameters
  pub said_written_twice : (k : ℕ) {A B : Type 0} {g : A} {h : B} {v w : After k (A × (B × Unit {0}))}
      → (x ≡ f) × (((rest k v).0 ≡ g) × ((rest k v).1.0 ≡ h)) → (y ≡ f) × (((rest k w).0 ≡ g) × ((rest k w).1.0 ≡ h)) → (x ≡ y) × (v ≡ w)
  said_written_twice k p q =
      let e = coincide p.1.0 q.1.0 in
      let d = coincide p.1.1 q.1.1 in
      (coincide p.0 q.0, same_rest k (λ i. (e i, (d i, tt))))
