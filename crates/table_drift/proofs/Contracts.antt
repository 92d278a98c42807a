-- A lookup with its drifts, of calls: what it tells and leaves on every input, by its contract as `rattle` reads that from the code (`drift_tells`, by computation), so that a contract which is changed
-- together with its code is refused here; and what its clause `right` comes to: a result that is told inside decrypts to the message that the table's word is (`told_decrypts`).
-- Assumes nothing.
use mathlib.Core.Path.{◌≡◌}
use mathlib.Core.Bool.{Bool, true}
use mathlib.Core.List.{[], ◌∷◌}
use Prim.Native.Nat.{ℕ, ◌+◌, ◌%◌}
use lib.ListN.{length}
use contract.Lifetimes.{Lfts}
use denote.Triple.Entry.{Args, Res}
use denote.Triple.Clauses.{Lasts, at_exit}
use Rattle.ring.specs.Word.{Q, at}
use Rattle.ring.specs.Centre.{word_of}
use Rattle.ring.specs.Phase.{phase_of}
use Rattle.std.specs.Prelude.{Ok, IsOk}
use Rattle.params.specs.Refusal.{answer, if_done, given}
use Rattle.tlwe.specs.Plain.{bit_word, message_word}
use Rattle.tlwe.specs.Decrypt.{bit_of, message_of}
use Rattle.tables.specs.Table.{looked_up}
use Rattle.table_drift.specs.Lookup.{message_brought, lookup_drift, inside_margin, both_inside, Carries}
use Rattle.table_drift.specs.Refusals.{lookup_drift_number, result_after, drifts_after}
use Rattle.table_drift.proofs.lookup_drift as drifting
use Rattle.table_drift.specs.contracts.lookup_drift as drifting_c

pub drift_tells : (κs : Lfts (drifting_c.ended).signature.lifetimes) (a : Args (drifting_c.ended).signature κs) (x : Res (drifting_c.ended).signature κs) (v : Lasts drifting_c.ended κs a)
    → drifting.Reads.Learnt κs a x (at_exit drifting_c.ended κs a v)
    → let p = a.0 in let m = a.1.0 in let f = a.1.1.0.now in let results = a.1.1.1.0 in let value = a.1.1.1.1.0 in let ksk = a.1.1.1.1.1.0.now in let bsk = a.1.1.1.1.1.1.0.now in
    let key = a.1.1.1.1.1.1.1.0.now in let z = a.1.1.1.1.1.1.1.1.0.now in let c = a.1.1.1.1.1.1.1.1.1.0.now in let o = a.1.1.1.1.1.1.1.1.1.1.0.now in
    let d = a.1.1.1.1.1.1.1.1.1.1.1.0.now in
    let number = lookup_drift_number p m (length f) results (length ksk) (length bsk) key z (length c) (length o) (length d) in
    (x ≡ given (answer number) (both_inside p key z ksk bsk m f results value c))
    × (v.1.1.1.1.1.1.1.1.1.1.0 ≡ if_done number (looked_up p m f ksk bsk c) o)
    × (v.1.1.1.1.1.1.1.1.1.1.1.0 ≡ if_done number (word_of (message_brought p key c value m) ∷ word_of (lookup_drift p key z ksk bsk m f c) ∷ []) d)
    × (IsOk x → inside_margin m (message_brought p key c value m) ≡ true → phase_of p.n key v.1.1.1.1.1.1.1.1.1.1.0 ≡ (at f (value % m) + at v.1.1.1.1.1.1.1.1.1.1.1.0 1) % Q)
    × (x ≡ Ok true → Carries p key m f results value v.1.1.1.1.1.1.1.1.1.1.0 (at v.1.1.1.1.1.1.1.1.1.1.1.0 1))
unfolding result_after drifts_after
drift_tells κs a x v h = (h.0, h.1.0, h.1.1.0, h.1.1.1.0, h.1.1.1.1)

-- told inside, the result decrypts to the message w that the table's word for value is
pub told_decrypts : (κs : Lfts (drifting_c.ended).signature.lifetimes) (a : Args (drifting_c.ended).signature κs) (x : Res (drifting_c.ended).signature κs) (v : Lasts drifting_c.ended κs a)
    → drifting.Reads.Learnt κs a x (at_exit drifting_c.ended κs a v) → x ≡ Ok true
    → let p = a.0 in let m = a.1.0 in let f = a.1.1.0.now in let results = a.1.1.1.0 in let value = a.1.1.1.1.0 in let key = a.1.1.1.1.1.1.1.0.now in
    (w : ℕ) → at f (value % m) ≡ message_word w results → message_of results (phase_of p.n key v.1.1.1.1.1.1.1.1.1.1.0) ≡ w % results
told_decrypts κs a x v h i = (h.1.1.1.1 i).message

-- and its phase is the table's word for value plus the drift that stands in drifts
pub told_carries : (κs : Lfts (drifting_c.ended).signature.lifetimes) (a : Args (drifting_c.ended).signature κs) (x : Res (drifting_c.ended).signature κs) (v : Lasts drifting_c.ended κs a)
    → drifting.Reads.Learnt κs a x (at_exit drifting_c.ended κs a v) → x ≡ Ok true
    → let p = a.0 in let m = a.1.0 in let f = a.1.1.0.now in let value = a.1.1.1.1.0 in let key = a.1.1.1.1.1.1.1.0.now in
    phase_of p.n key v.1.1.1.1.1.1.1.1.1.1.0 ≡ (at f (value % m) + at v.1.1.1.1.1.1.1.1.1.1.1.0 1) % Q
told_carries κs a x v h i = (h.1.1.1.1 i).word

-- and it decrypts to the bit that the word is, whatever the results' modulus
pub told_bit : (κs : Lfts (drifting_c.ended).signature.lifetimes) (a : Args (drifting_c.ended).signature κs) (x : Res (drifting_c.ended).signature κs) (v : Lasts drifting_c.ended κs a)
    → drifting.Reads.Learnt κs a x (at_exit drifting_c.ended κs a v) → x ≡ Ok true
    → let p = a.0 in let m = a.1.0 in let f = a.1.1.0.now in let value = a.1.1.1.1.0 in let key = a.1.1.1.1.1.1.1.0.now in
    (b : Bool) → at f (value % m) ≡ bit_word b → bit_of (phase_of p.n key v.1.1.1.1.1.1.1.1.1.1.0) ≡ b
told_bit κs a x v h i = (h.1.1.1.1 i).bit
