-- Two outcomes that a contract of this crate allows coincide: of the contract itself, as `rattle` reads it from the code, for every public routine (01, 'What the contracts owe'), and of two private ones.
-- Assumes nothing.
use Rattle.std.proofs.Common.{ℕ, refl, ap}
use Rattle.ring.proofs.Outcomes.{coincide, Determined, said, said_written}
use Rattle.utils.specs.declared.Amount.{Amount}
use Rattle.rotation.proofs.poly_mul_with_x_k as poly_mul_with_x_k
use Rattle.rotation.specs.contracts.poly_mul_with_x_k as poly_mul_with_x_k_c
use Rattle.rotation.proofs.mask_amount_in as mask_amount_in_call
use Rattle.rotation.specs.contracts.mask_amount_in as mask_amount_in_c
use Rattle.rotation.proofs.body_amount_in as body_amount_in_call
use Rattle.rotation.specs.contracts.body_amount_in as body_amount_in_c
use Rattle.rotation.proofs.mask_amount as mask_amount_call
use Rattle.rotation.specs.contracts.mask_amount as mask_amount_c
use Rattle.rotation.proofs.body_amount as body_amount_call
use Rattle.rotation.specs.contracts.body_amount as body_amount_c

pub poly_mul_with_x_k_determined : Determined poly_mul_with_x_k_c.ended poly_mul_with_x_k.Reads.Learnt
poly_mul_with_x_k_determined κs a x y v w = said_written 3

-- ---- the private routines of amounts, the parameters checked

-- an amount is its number
abbrev amount : ℕ → Amount
amount n = record { 0 = n }

pub mask_amount_in_determined : Determined mask_amount_in_c.ended mask_amount_in_call.Reads.Learnt
mask_amount_in_determined κs a x y v w p q = (ap amount (coincide p q), refl)

pub body_amount_in_determined : Determined body_amount_in_c.ended body_amount_in_call.Reads.Learnt
body_amount_in_determined κs a x y v w p q = (ap amount (coincide p q), refl)

-- ---- the public ones

pub mask_amount_determined : Determined mask_amount_c.ended mask_amount_call.Reads.Learnt
mask_amount_determined κs a x y v w = said

pub body_amount_determined : Determined body_amount_c.ended body_amount_call.Reads.Learnt
body_amount_determined κs a x y v w = said
