-- Two outcomes that a contract of this crate allows coincide: of the contract itself, as `rattle` reads it from the code, for every public routine (01, 'What the contracts owe').
-- Assumes nothing.
use mathlib.Core.List.{List, [], ◌∷◌}
use mathlib.Core.Path.{◌≡◌, refl, sym, ap, ◌∙◌}
use Prim.Native.Nat.{ℕ, ◌≤◌}
use native.Mathlib.Omega.{arith}
use lib.ListN.{get_or}
use Rattle.std.specs.Prelude.{Result, Ok, Err}
use Rattle.kinds.specs.declared.kind.NoKind.{NoKind}
use Rattle.kinds.specs.declared.kind.Kind.{Kind}
use Rattle.kinds.specs.declared.kind.Kind.TheVariants.{False, True, Not, And, Or, Nand, Nor, Xor, Xnor, AndNy, AndYn, OrNy, OrYn, Mux}
use Rattle.kinds.specs.Kinds.{last_kind}
use Rattle.kinds.specs.Numbers.{number, Numbered}
use Rattle.ring.proofs.Outcomes.{Determined, said}
use Rattle.kinds.proofs.operands as operands
use Rattle.kinds.specs.contracts.operands as operands_c
use Rattle.kinds.proofs.work_of as work_of_call
use Rattle.kinds.specs.contracts.work_of as work_of_c
use Rattle.kinds.proofs.meaning as meaning
use Rattle.kinds.specs.contracts.meaning as meaning_c
use Rattle.kinds.proofs.kind.Kind.operands as kind_operands
use Rattle.kinds.specs.contracts.kind.Kind.operands as kind_operands_c
use Rattle.kinds.proofs.kind.Kind.work as kind_work
use Rattle.kinds.specs.contracts.kind.Kind.work as kind_work_c
use Rattle.kinds.proofs.kind.Kind.meaning as kind_meaning
use Rattle.kinds.specs.contracts.kind.Kind.meaning as kind_meaning_c
use Rattle.kinds.proofs.kind.KindTryFromUsize.try_from as kind_try_from
use Rattle.kinds.specs.contracts.kind.KindTryFromUsize.try_from as kind_try_from_c

pub operands_determined : Determined operands_c.ended operands.Reads.Learnt
operands_determined κs a x y v w = said

pub work_of_determined : Determined work_of_c.ended work_of_call.Reads.Learnt
work_of_determined κs a x y v w p q = said p.0 q.0

pub meaning_determined : Determined meaning_c.ended meaning.Reads.Learnt
meaning_determined κs a x y v w = said

pub kind_operands_determined : Determined kind_operands_c.ended kind_operands.Reads.Learnt
kind_operands_determined κs a x y v w = said

pub kind_work_determined : Determined kind_work_c.ended kind_work.Reads.Learnt
kind_work_determined κs a x y v w p q = said p.0 q.0

pub kind_meaning_determined : Determined kind_meaning_c.ended kind_meaning.Reads.Learnt
kind_meaning_determined κs a x y v w = said

-- ---- `Kind::try_from`, whose clause is a relation: of a number it leaves one outcome

-- the kinds in the order of their numbers
abbrev in_order : List Kind
in_order = False ∷ True ∷ Not ∷ And ∷ Or ∷ Nand ∷ Nor ∷ Xor ∷ Xnor ∷ AndNy ∷ AndYn ∷ OrNy ∷ OrYn ∷ Mux ∷ []

-- each stands at its own number
back : (k : Kind) → get_or in_order (number k) False ≡ k
back False = refl
back True = refl
back Not = refl
back And = refl
back Or = refl
back Nand = refl
back Nor = refl
back Xor = refl
back Xnor = refl
back AndNy = refl
back AndYn = refl
back OrNy = refl
back OrYn = refl
back Mux = refl

within : (k : Kind) → number k ≤ last_kind
within False = omega arith
within True = omega arith
within Not = omega arith
within And = omega arith
within Or = omega arith
within Nand = omega arith
within Nor = omega arith
within Xor = omega arith
within Xnor = omega arith
within AndNy = omega arith
within AndYn = omega arith
within OrNy = omega arith
within OrYn = omega arith
within Mux = omega arith

numbered_once : (n : ℕ) (x y : Result Kind NoKind) → Numbered n x → Numbered n y → x ≡ y
numbered_once n (Ok j) (Ok k) p q = ap Ok (sym (back j) ∙ ap (λ (m : ℕ). get_or in_order m False) (p ∙ sym q) ∙ back k)
numbered_once n (Ok j) (Err e) p q = absurd (let h = within j in omega (arith, h, p, q.1))
numbered_once n (Err e) (Ok k) p q = absurd (let h = within k in omega (arith, h, q, p.1))
numbered_once n (Err e) (Err d) p q = let m = p.0 ∙ sym q.0 in (λ i. Err (record { 0 = m i }))

pub kind_try_from_determined : Determined kind_try_from_c.ended kind_try_from.Reads.Learnt
kind_try_from_determined κs a x y v w p q = (numbered_once _ x y p q, λ i. v)
