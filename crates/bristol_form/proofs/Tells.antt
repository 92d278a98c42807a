-- What a routine hands back by an answer: the refusal of an answer that refuses, told by another answer that is the same; the value where none refuses.
-- Assumes nothing.
use mathlib.Core.Path.{◌≡◌, refl, sym, ap, subst, ◌∙◌}
use mathlib.Core.Bool.{Bool, true, false, cond}
use mathlib.Core.List.{[], ◌∷◌}
use Prim.Native.Nat.{ℕ, ◌+◌, ◌-◌, ◌≤◌, ◌<◌}
use borrow.Author.Tests.{eqb-true, eqb-false, eq-eqb, ne_eqb}
use lib.Dec.{eqb}
use Rattle.std.specs.Prelude.{Result, Ok, Err}
use Rattle.std.specs.Result.{MatchResult, IsErrAnd, IfOk}
use Rattle.params.specs.Refusal.{Answer}
use Rattle.params.specs.declared.refusal.Refusal.{Refusal}
use Rattle.params.specs.declared.refusal.Refusal.TheVariants.{Text, Limit}
use Rattle.params.specs.Refusal.{given, unless, done, refusal_at}
use Rattle.circuit.specs.Form.{asks, first_at, first, or_else}
use Rattle.circuit.proofs.Steps.{first_stop, first_step, first_end}

-- an answer that refuses is the first of two
pub or_first : (a b : Answer) → (a.number ≡ 0 → ⊥) → or_else a b ≡ a
or_first a b d = rw (ne_eqb a.number 0 d)

-- what was refused by one answer is refused by another that is the same where the first refuses
pub refused_by : {A B : Type 0} (a b : Answer) (v : A) (w : B) {r : Refusal} → given a v ≡ Err r → ((a.number ≡ 0 → ⊥) → b ≡ a) → Err r ≡ given b w
refused_by {A} {B} a b v w {r} e same = go (eqb a.number 0) refl e
  where
    go : (t : Bool) → eqb a.number 0 ≡ t → cond t (Ok v) (Err (refusal_at a.number a.place)) ≡ Err r → Err r ≡ given b w
    go true h e = absurd cc
    go false h e =
        let i : refusal_at a.number a.place ≡ r = cc in
        let s : given a w ≡ Err r = rw (h, i) in
        sym (ap (λ (x : Answer). given x w) (same (λ z. eqb-false a.number 0 h z)) ∙ s)

-- what was handed back was not refused, and is the value
pub passed : {A : Type 0} (a : Answer) (v : A) {x : A} → given a v ≡ Ok x → (a.number ≡ 0) × (x ≡ v)
passed {A} a v {x} e = go (eqb a.number 0) refl e
  where
    go : (t : Bool) → eqb a.number 0 ≡ t → cond t (Ok v) (Err (refusal_at a.number a.place)) ≡ Ok x → (a.number ≡ 0) × (x ≡ v)
    go true h e = (eqb-true a.number 0 h, cc)
    go false h e = absurd cc

-- a value, or a refusal, by the answer
pub given_value : {A : Type 0} (b : Answer) (v : A) {x : A} → b.number ≡ 0 → x ≡ v → Ok x ≡ given b v
given_value b v e d = rw (eq-eqb b.number 0 e) (ap (λ y. Ok y) d)

pub given_text : {A : Type 0} (b : Answer) (v : A) (q p : ℕ) → b ≡ record { number = 11; place = p } → q ≡ p → Err (Text q) ≡ given b v
given_text b v q p e d = rw (e, d)

pub given_limit : {A : Type 0} (b : Answer) (v : A) (q p : ℕ) → b ≡ record { number = 12; place = p } → q ≡ p → Err (Limit q) ≡ given b v
given_limit b v q p e d = rw (e, d)

-- ---- one test

pub fails_at : (test : Bool) (n p : ℕ) → test ≡ false → first_at (asks test n p ∷ []) ≡ record { number = n; place = p }
fails_at test n p e = ap (λ (t : Bool). first_at (asks t n p ∷ [])) e

pub holds_at : (test : Bool) (n p : ℕ) → test ≡ true → (first_at (asks test n p ∷ [])).number ≡ 0
holds_at test n p e = ap (λ (t : Bool). (first_at (asks t n p ∷ [])).number) e

pub unless_failed : (test : Bool) (q : Refusal) {r : Refusal} → unless test q done ≡ Err r → (test ≡ false) × (r ≡ q)
unless_failed true q e = absurd cc
unless_failed false q e = (refl, cc)

pub unless_held : (test : Bool) (q : Refusal) {u : Unit {0}} → unless test q done ≡ Ok u → test ≡ true
unless_held true q e = refl
unless_held false q e = absurd cc

-- a row of answers, each one test, up to index i
module _ (f : ℕ → Answer) (i n : ℕ) (so_far : first f 0 n ≡ first f i (n - i)) (test : Bool) (place : ℕ) (one : f i ≡ first_at (asks test 11 place ∷ [])) (in_it : i < n) where
  pub row_fails : test ≡ false → first f 0 n ≡ record { number = 11; place = place }
  row_fails e =
      let s : f i ≡ record { number = 11; place = place } = one ∙ fails_at test 11 place e in
      so_far ∙ first_stop f i n in_it (λ z. let y : 11 ≡ 0 = sym (ap (λ (a : Answer). a.number) s) ∙ z in absurd cc) ∙ s

  pub row_holds : test ≡ true → first f 0 n ≡ first f (i + 1) (n - (i + 1))
  row_holds e = so_far ∙ first_step f i n in_it (ap (λ (x : Answer). x.number) one ∙ holds_at test 11 place e)

pub row_done : (f : ℕ → Answer) (i n : ℕ) → first f 0 n ≡ first f i (n - i) → n ≤ i → (first f 0 n).number ≡ 0
row_done f i n so_far h = ap (λ (a : Answer). a.number) (so_far ∙ first_end f i n h)

-- a test that failed, and the answer that it makes
pub unless_text : {A : Type 0} (t : Bool) (q : ℕ) (a : Answer) (v : A) (p : ℕ) {r : Refusal} → unless t (Text q) done ≡ Err r → q ≡ p → (t ≡ false → a ≡ record { number = 11; place = p }) → Err r ≡ given a v
unless_text t q a v p e d h =
    let u = unless_failed t (Text q) e in
    rw u.1 (given_text a v q p (h u.0) d)

-- a place handed back as a refusal
pub mapped_err : {A : Type 0} (f : ℕ → Refusal) (s : Result A ℕ) (t : Result A Refusal) {r : Refusal} → MatchResult s (λ x. t ≡ Ok x) (λ p. IsErrAnd t (λ e. e ≡ f p)) → t ≡ Err r → (p : ℕ) × (s ≡ Err p) × (r ≡ f p)
mapped_err f (Ok x) t m e = absurd cc
mapped_err f (Err p) (Ok y) m e = absurd cc
mapped_err f (Err p) (Err q) m e = (p, refl, cc)

pub mapped_ok : {A : Type 0} (f : ℕ → Refusal) (s : Result A ℕ) (t : Result A Refusal) {x : A} → MatchResult s (λ x. t ≡ Ok x) (λ p. IsErrAnd t (λ e. e ≡ f p)) → t ≡ Ok x → s ≡ Ok x
mapped_ok f (Ok y) t m e = cc
mapped_ok f (Err p) (Ok y) m e = absurd m
mapped_ok f (Err p) (Err q) m e = absurd cc

-- what holds of a value, if one was handed back
pub if_ok : {A E : Type 0} (P : A → Type 0) (r : Result A E) (v : A) → IfOk r P → r ≡ Ok v → P v
if_ok P (Ok x) v h e = let i : x ≡ v = cc in subst P i h
if_ok P (Err x) v h e = absurd cc
