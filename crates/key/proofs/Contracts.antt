-- The routines over the switching key's layout, of calls: what each tells and leaves on every input, by its contract as `rattle` reads that from the code (the laws ending in -tells, by computation), so
-- that a contract of these five which is changed together with its code is refused here; and what that comes to. The generated key is the former one without its idle rows (`generation_leaves_out`), and so
-- is what `drop_idle_rows` leaves of that (`dropping_generates`); a lookup finds its row's place (`row_index_finds`), and nothing at k = 0 (`row_index_at_zero`, `switching_row_answer_at_zero`,
-- `switching_row_at_zero`), by the laws of the definitions.
-- Assumes nothing.
use mathlib.Core.Path.{◌≡◌, refl, sym, ap, ◌∙◌}
use mathlib.Core.List.{List, []}
use Prim.Native.Nat.{ℕ, ◌+◌, ◌*◌, ◌-◌, ◌≤◌, ◌<◌}
use lib.ListN.{length}
use contract.Lifetimes.{Lfts}
use denote.Triple.Entry.{Args, Res}
use denote.Triple.Clauses.{Lasts, at_exit}
use Rattle.std.specs.Prelude.{Ok, Err}
use Rattle.params.specs.declared.refusal.Refusal.TheVariants.{Index}
use Rattle.params.specs.Refusal.{answer, if_done, outcome, given}
use Rattle.params.specs.Ranges.{params_number}
use Rattle.params.specs.Sizes.{size, base, switching_words}
use Rattle.params.proofs.Answers.{when_done, given_done}
use Rattle.key.specs.Switching.{row_index, row_part, lookup_number, place_out}
use Rattle.key.specs.Generation.{generate_number, generated}
use Rattle.key.specs.Former.{drop_number, without_idle}
use Rattle.key.specs.FormerKey.{former_key}
use Rattle.key.specs.Private.{Lent}
use Rattle.key.proofs.Checks.{lookup_done, lookup_at_zero, generate_good}
use Rattle.key.proofs.FormerKey.{idle_left_out}
use Rattle.key.proofs.row_index as row_index_call
use Rattle.key.specs.contracts.row_index as row_index_c
use Rattle.key.proofs.switching_row_answer as switching_row_answer
use Rattle.key.specs.contracts.switching_row_answer as switching_row_answer_c
use Rattle.key.proofs.switching_row as switching_row
use Rattle.key.specs.contracts.switching_row as switching_row_c
use Rattle.key.proofs.gen_key_switching_key as generation
use Rattle.key.specs.contracts.gen_key_switching_key as generation_c
use Rattle.key.proofs.former.drop_idle_rows as dropping
use Rattle.key.specs.contracts.former.drop_idle_rows as dropping_c

-- ---- making a key

pub generation_tells : (κs : Lfts (generation_c.ended).signature.lifetimes) (a : Args (generation_c.ended).signature κs) (x : Res (generation_c.ended).signature κs) (v : Lasts generation_c.ended κs a)
    → generation.Reads.Learnt κs a x (at_exit generation_c.ended κs a v)
    → let p = a.0 in let key = a.1.0.now in let z = a.1.1.0.now in let masks = a.1.1.1.0.now in let noise = a.1.1.1.1.0.now in let out = a.1.1.1.1.1.0.now in
    let number = generate_number p key z (length masks) (length noise) (length out) in (x ≡ outcome (answer number)) × (v.1.1.1.1.1.0 ≡ if_done number (generated p key z masks noise) out)
generation_tells κs a x v h = h

-- where it is not refused it leaves the former key without its idle rows
pub generation_leaves_out : (κs : Lfts (generation_c.ended).signature.lifetimes) (a : Args (generation_c.ended).signature κs) (x : Res (generation_c.ended).signature κs) (v : Lasts generation_c.ended κs a)
    → generation.Reads.Learnt κs a x (at_exit generation_c.ended κs a v)
    → let p = a.0 in let key = a.1.0.now in let z = a.1.1.0.now in let masks = a.1.1.1.0.now in let noise = a.1.1.1.1.0.now in let out = a.1.1.1.1.1.0.now in
    generate_number p key z (length masks) (length noise) (length out) ≡ 0 → v.1.1.1.1.1.0 ≡ without_idle p (former_key p key z masks noise)
generation_leaves_out κs a x v h e = h.1 ∙ when_done _ _ _ e ∙ sym (idle_left_out _ _ _ _ _ (generate_good _ _ _ _ _ _ e).lent)

pub dropping_tells : (κs : Lfts (dropping_c.ended).signature.lifetimes) (a : Args (dropping_c.ended).signature κs) (x : Res (dropping_c.ended).signature κs) (v : Lasts dropping_c.ended κs a)
    → dropping.Reads.Learnt κs a x (at_exit dropping_c.ended κs a v)
    → let p = a.0 in let former = a.1.0.now in let out = a.1.1.0.now in
    let number = drop_number p (length former) (length out) in (x ≡ outcome (answer number)) × (v.1.1.0 ≡ if_done number (without_idle p former) out)
dropping_tells κs a x v h = h

-- of the former key it leaves what a generation leaves
pub dropping_generates : (κs : Lfts (dropping_c.ended).signature.lifetimes) (a : Args (dropping_c.ended).signature κs) (x : Res (dropping_c.ended).signature κs) (v : Lasts dropping_c.ended κs a)
    → dropping.Reads.Learnt κs a x (at_exit dropping_c.ended κs a v)
    → let p = a.0 in let former = a.1.0.now in let out = a.1.1.0.now in
    (key z masks noise : List ℕ) → Lent p (length key) (length z) (length masks) (length noise) → former ≡ former_key p key z masks noise → drop_number p (length former) (length out) ≡ 0
    → v.1.1.0 ≡ generated p key z masks noise
dropping_generates κs a x v h key z masks noise lent e d = h.1 ∙ when_done _ _ _ d ∙ ap (without_idle a.0) e ∙ idle_left_out a.0 key z masks noise lent

-- ---- looking a row up

pub row_index_tells : (κs : Lfts (row_index_c.ended).signature.lifetimes) (a : Args (row_index_c.ended).signature κs) (x : Res (row_index_c.ended).signature κs) (v : Lasts row_index_c.ended κs a)
    → row_index_call.Reads.Learnt κs a x (at_exit row_index_c.ended κs a v) → x ≡ place_out a.0 a.1.0 a.1.1.0 a.1.1.1.0
row_index_tells κs a x v h = h

pub switching_row_answer_tells : (κs : Lfts (switching_row_answer_c.ended).signature.lifetimes) (a : Args (switching_row_answer_c.ended).signature κs) (x : Res (switching_row_answer_c.ended).signature κs)
    (v : Lasts switching_row_answer_c.ended κs a) → switching_row_answer.Reads.Learnt κs a x (at_exit switching_row_answer_c.ended κs a v)
    → x ≡ outcome (answer (lookup_number a.0 a.1.0 a.1.1.0 a.1.1.1.0 a.1.1.1.1.0))
switching_row_answer_tells κs a x v h = h

pub switching_row_tells : (κs : Lfts (switching_row_c.ended).signature.lifetimes) (a : Args (switching_row_c.ended).signature κs) (x : Res (switching_row_c.ended).signature κs) (v : Lasts switching_row_c.ended κs a)
    → switching_row.Reads.Learnt κs a x (at_exit switching_row_c.ended κs a v)
    → let p = a.0 in let key = a.1.0.now in let i = a.1.1.0 in let j = a.1.1.1.0 in let k = a.1.1.1.1.0 in x.now ≡ if_done (lookup_number p (length key) i j k) (row_part p key i j k) []
switching_row_tells κs a x v h = h

-- an index in its range has its row's place
pub row_index_finds : (κs : Lfts (row_index_c.ended).signature.lifetimes) (a : Args (row_index_c.ended).signature κs) (x : Res (row_index_c.ended).signature κs) (v : Lasts row_index_c.ended κs a)
    → row_index_call.Reads.Learnt κs a x (at_exit row_index_c.ended κs a v)
    → let p = a.0 in let i = a.1.0 in let j = a.1.1.0 in let k = a.1.1.1.0 in
    params_number p ≡ 0 → i < size p → j < p.t → 1 ≤ k → k < base p → x ≡ Ok ((base p - 1) * (p.t * i + j) + (k - 1))
unfolding place_out row_index
row_index_finds κs a x v h e hi hj from hk =
    let d = lookup_done a.0 (switching_words a.0) a.1.0 a.1.1.0 a.1.1.1.0 e refl hi hj from hk in
    h ∙ given_done (answer (lookup_number a.0 (switching_words a.0) a.1.0 a.1.1.0 a.1.1.1.0)) _ d

-- and k = 0 has none, whatever i and j
pub row_index_at_zero : (κs : Lfts (row_index_c.ended).signature.lifetimes) (a : Args (row_index_c.ended).signature κs) (x : Res (row_index_c.ended).signature κs) (v : Lasts row_index_c.ended κs a)
    → row_index_call.Reads.Learnt κs a x (at_exit row_index_c.ended κs a v) → params_number a.0 ≡ 0 → a.1.1.1.0 ≡ 0 → x ≡ Err Index
unfolding place_out
row_index_at_zero κs a x v h e z =
    let d = lookup_at_zero a.0 a.1.0 a.1.1.0 a.1.1.1.0 e z in
    h ∙ ap (λ (n : ℕ). given (answer n) (row_index a.0 a.1.0 a.1.1.0 a.1.1.1.0)) d

pub switching_row_answer_at_zero : (κs : Lfts (switching_row_answer_c.ended).signature.lifetimes) (a : Args (switching_row_answer_c.ended).signature κs) (x : Res (switching_row_answer_c.ended).signature κs)
    (v : Lasts switching_row_answer_c.ended κs a) → switching_row_answer.Reads.Learnt κs a x (at_exit switching_row_answer_c.ended κs a v)
    → params_number a.0 ≡ 0 → a.1.0 ≡ switching_words a.0 → a.1.1.1.1.0 ≡ 0 → x ≡ Err Index
switching_row_answer_at_zero κs a x v h e l z = h ∙ ap (λ (n : ℕ). outcome (answer n)) (ap (λ (n : ℕ). lookup_number a.0 n a.1.1.0 a.1.1.1.0 a.1.1.1.1.0) l ∙ lookup_at_zero a.0 a.1.1.0 a.1.1.1.0 a.1.1.1.1.0 e z)

pub switching_row_at_zero : (κs : Lfts (switching_row_c.ended).signature.lifetimes) (a : Args (switching_row_c.ended).signature κs) (x : Res (switching_row_c.ended).signature κs) (v : Lasts switching_row_c.ended κs a)
    → switching_row.Reads.Learnt κs a x (at_exit switching_row_c.ended κs a v) → params_number a.0 ≡ 0 → length a.1.0.now ≡ switching_words a.0 → a.1.1.1.1.0 ≡ 0 → x.now ≡ []
switching_row_at_zero κs a x v h e l z =
    let d = ap (λ (n : ℕ). lookup_number a.0 n a.1.1.0 a.1.1.1.0 a.1.1.1.1.0) l ∙ lookup_at_zero a.0 a.1.1.0 a.1.1.1.0 a.1.1.1.1.0 e z in
    h ∙ ap (λ (n : ℕ). if_done n (row_part a.0 a.1.0.now a.1.1.0 a.1.1.1.0 a.1.1.1.1.0) []) d
