-- `front`, of calls: what it tells on every input, by its contract as `rattle` reads that from the code (`front_tells`, by computation), so that a contract which is changed together with its code is refused here;
-- and what that comes to. A refused call tells its refusal alone (`front_refused`), a call that is not refused a place below 2N (`front_below`), by the laws of the definitions; the
-- numbers of the refusals (01, 'Refusal numbers') and the words told are computed, of calls.
-- Assumes nothing.
use mathlib.Core.Path.{◌≡◌, refl, ◌∙◌}
use mathlib.Core.List.{List, [], ◌∷◌}
use Prim.Native.Nat.{ℕ, ◌+◌, ◌<◌}
use native.Mathlib.Nat.{mod-lt}
use native.Mathlib.Omega.{arith}
use borrow.Author.Tests.{ne_eqb}
use lib.ListN.{length}
use Rattle.std.specs.Prelude.{Result, Ok, Err}
use contract.Lifetimes.{Lfts}
use denote.Triple.Entry.{Args, Res}
use denote.Triple.Clauses.{Lasts, at_exit}
use Rattle.ring.specs.Word.{Q, neg}
use Rattle.ring.specs.Turn.{source}
use Rattle.params.specs.declared.Params.{Params}
use Rattle.params.specs.Published.{numbers}
use Rattle.params.specs.Ranges.{params_number}
use Rattle.params.specs.declared.refusal.Refusal.{Refusal}
use Rattle.params.specs.declared.refusal.Refusal.TheVariants.{Parameters, Length, KeyWord}
use Rattle.params.specs.Refusal.{answer, given, refusal_at}
use Rattle.params.specs.Sizes.{size}
use Rattle.params.proofs.Answers.{given_done}
use Rattle.params.proofs.Ranges.{size_from}
use Rattle.tlwe.specs.declared.Level.TheVariants.{Zero}
use Rattle.tlwe.specs.Key.{binary, keyed_number}
use Rattle.rotation.specs.Amount.{half, step, mask_amount, body_amount}
use Rattle.blind_rotation.specs.Drift.{turn_to}
use Rattle.drift.specs.Polynomials.{whole_sum}
use Rattle.drift.specs.Whole.{remainder}
use Rattle.turns.specs.declared.Rounded.{Rounded}
use Rattle.drift.specs.Whole.{rounding_drift}
use Rattle.turns.specs.Front.{front_place, front_rounding}
use Rattle.turns.proofs.front as front
use Rattle.turns.specs.contracts.front as front_c

-- What a call is to hand back: both words, or its refusal.
abbrev told : Params → List ℕ → List ℕ → Result Rounded Refusal
told p key src = given (answer (keyed_number p Zero (length src) key)) (record { place = front_place p key src; rounding = record { 0 = front_rounding p key src } })

-- ---- of every call

pub front_tells : (κs : Lfts (front_c.ended).signature.lifetimes) (a : Args (front_c.ended).signature κs) (x : Res (front_c.ended).signature κs) (v : Lasts front_c.ended κs a)
    → front.Reads.Learnt κs a x (at_exit front_c.ended κs a v) → x ≡ told a.0 a.1.0.now a.1.1.0.now
front_tells κs a x v h = h

-- a refused call tells nothing but its refusal
pub front_refused : (κs : Lfts (front_c.ended).signature.lifetimes) (a : Args (front_c.ended).signature κs) (x : Res (front_c.ended).signature κs) (v : Lasts front_c.ended κs a)
    → front.Reads.Learnt κs a x (at_exit front_c.ended κs a v)
    → let number = keyed_number a.0 Zero (length a.1.1.0.now) a.1.0.now in (number ≡ 0 → ⊥) → x ≡ Err (refusal_at number 0)
front_refused κs a x v h Bad = h ∙ rw (ne_eqb _ 0 Bad)

-- where it is not refused it tells a place below 2N
pub front_below : (κs : Lfts (front_c.ended).signature.lifetimes) (a : Args (front_c.ended).signature κs) (x : Res (front_c.ended).signature κs) (v : Lasts front_c.ended κs a)
    → front.Reads.Learnt κs a x (at_exit front_c.ended κs a v)
    → keyed_number a.0 Zero (length a.1.1.0.now) a.1.0.now ≡ 0 → (r : Rounded) × (x ≡ Ok r) × (r.place < size a.0 + size a.0)
unfolding front_place source
front_below κs a x v h e = (
  record { place = front_place a.0 a.1.0.now a.1.1.0.now; rounding = record { 0 = front_rounding a.0 a.1.0.now a.1.1.0.now } },
  h ∙ given_done _ _ e,
  mod-lt _ (let q : 0 < size a.0 + size a.0 = omega (arith, size_from a.0) in q),
)

-- ---- of calls

-- what a call tells with n, N 4 (proofs/Examples.antt), this key and this ciphertext
abbrev at_small : ℕ → List ℕ → List ℕ → Result Rounded Refusal
at_small n key src = told (numbers n 2 6 3 1 1) key src

-- 1 for n 0, though nothing else is right; 2 for a ciphertext a word short, a word long, and for a key a word short, though it holds a 2; 4 for a key with a 2
pub refusals : (at_small 0 (2 ∷ []) [] ≡ Err Parameters)
    × (at_small 2 (1 ∷ 0 ∷ []) (5 ∷ 7 ∷ []) ≡ Err Length) × (at_small 2 (1 ∷ 0 ∷ []) (5 ∷ 7 ∷ 9 ∷ 11 ∷ []) ≡ Err Length) × (at_small 2 (2 ∷ []) (5 ∷ 7 ∷ 9 ∷ []) ≡ Err Length)
    × (at_small 2 (1 ∷ 2 ∷ []) (5 ∷ 7 ∷ 9 ∷ []) ≡ Err KeyWord)
unfolding params_number binary keyed_number
refusals = (refl, refl, refl, refl, refl)

-- and the words of two of the cases that proofs/Examples.antt works out by hand
pub tellings : (at_small 2 (1 ∷ 0 ∷ []) (0x30000000 ∷ 0x9ABCDEF0 ∷ 0x45000000 ∷ []) ≡ Ok (record { place = 0; rounding = record { 0 = 0xEB000000 } }))
    × (at_small 2 (1 ∷ 1 ∷ []) (0x30000000 ∷ 0xF4000000 ∷ 0xF0000000 ∷ []) ≡ Ok (record { place = 6; rounding = record { 0 = 0xF4000000 } }))
unfolding Q neg source half step mask_amount body_amount turn_to params_number binary keyed_number whole_sum remainder rounding_drift front_place front_rounding
tellings = (refl, refl)
