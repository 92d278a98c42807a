-- The clauses of a routine over a view, read by hand: by the lemmas that `rattle` reads clauses by, with nothing in hand. `rattle` makes these readings too, and they are the same (`.._same`, by
-- computation), so that what Determined.antt shows of the readings that are made it shows of these.
-- Assumes nothing.
use mathlib.Core.Path.{◌≡◌, refl}
use borrow.Fn.Claims.{AllOf}
use borrow.Fn.Read.{no_know, all_models, r_last, r_fact}
use borrow.Fn.World.{World, Pr}
use base.Logic.{emp}
use contract.Lifetimes.{Lfts}
use denote.Triple.Entry.{Args, Res}
use denote.Triple.Clauses.{AtExit}
use Rattle.ring.proofs.Outcomes.{Claims}
use Rattle.key_views.proofs.switching_key as switching_key_made
use Rattle.key_views.specs.contracts.switching_key as switching_key
use Rattle.key_views.proofs.bootstrapping_key as bootstrapping_key_made
use Rattle.key_views.specs.contracts.bootstrapping_key as bootstrapping_key_call
use Rattle.key_views.proofs.switching_row as switching_row_made
use Rattle.key_views.specs.contracts.switching_row as switching_row
use Rattle.key_views.proofs.bit_rows as bit_rows_made
use Rattle.key_views.specs.contracts.bit_rows as bit_rows_call
use Rattle.key_views.proofs.identity_key_switching as identity_key_switching_made
use Rattle.key_views.specs.contracts.identity_key_switching as identity_key_switching
use Rattle.key_views.proofs.blind_rotate as blind_rotate_made
use Rattle.key_views.specs.contracts.blind_rotate as blind_rotate
use Rattle.key_views.proofs.gate as gate_made
use Rattle.key_views.specs.contracts.gate as gate

-- the clauses are read as they stand, with nothing in hand
abbrev nothing : (w : World) → Pr w
nothing w = emp w.𝓤

abbrev pub switching_key_told : Claims switching_key.ended
switching_key_told κs a r e =
    AllOf (all_models {Base = nothing} {Know = no_know} (λ w. (switching_key.clauses w.𝓛 w.𝓜.mem w.𝓡.returns κs a).ensures tt r e) (λ w. r_last _) (λ w. refl) (λ w. refl) (λ w. refl)).tells

pub switching_key_same : (κs : Lfts (switching_key.ended).signature.lifetimes) (a : Args (switching_key.ended).signature κs) (r : Res (switching_key.ended).signature κs) (e : AtExit switching_key.ended κs) → switching_key_made.Reads.Learnt κs a r e ≡ switching_key_told κs a r e
switching_key_same κs a r e = refl

abbrev pub bootstrapping_key_told : Claims bootstrapping_key_call.ended
bootstrapping_key_told κs a r e =
    AllOf (all_models {Base = nothing} {Know = no_know} (λ w. (bootstrapping_key_call.clauses w.𝓛 w.𝓜.mem w.𝓡.returns κs a).ensures tt r e) (λ w. r_last _) (λ w. refl) (λ w. refl) (λ w. refl)).tells

pub bootstrapping_key_same : (κs : Lfts (bootstrapping_key_call.ended).signature.lifetimes) (a : Args (bootstrapping_key_call.ended).signature κs) (r : Res (bootstrapping_key_call.ended).signature κs) (e : AtExit bootstrapping_key_call.ended κs) → bootstrapping_key_made.Reads.Learnt κs a r e ≡ bootstrapping_key_told κs a r e
bootstrapping_key_same κs a r e = refl

abbrev pub switching_row_told : Claims switching_row.ended
switching_row_told κs a r e =
    AllOf (all_models {Base = nothing} {Know = no_know} (λ w. (switching_row.clauses w.𝓛 w.𝓜.mem w.𝓡.returns κs a).ensures tt r e) (λ w. r_last _) (λ w. refl) (λ w. refl) (λ w. refl)).tells

pub switching_row_same : (κs : Lfts (switching_row.ended).signature.lifetimes) (a : Args (switching_row.ended).signature κs) (r : Res (switching_row.ended).signature κs) (e : AtExit switching_row.ended κs) → switching_row_made.Reads.Learnt κs a r e ≡ switching_row_told κs a r e
switching_row_same κs a r e = refl

abbrev pub bit_rows_told : Claims bit_rows_call.ended
bit_rows_told κs a r e =
    AllOf (all_models {Base = nothing} {Know = no_know} (λ w. (bit_rows_call.clauses w.𝓛 w.𝓜.mem w.𝓡.returns κs a).ensures tt r e) (λ w. r_last _) (λ w. refl) (λ w. refl) (λ w. refl)).tells

pub bit_rows_same : (κs : Lfts (bit_rows_call.ended).signature.lifetimes) (a : Args (bit_rows_call.ended).signature κs) (r : Res (bit_rows_call.ended).signature κs) (e : AtExit bit_rows_call.ended κs) → bit_rows_made.Reads.Learnt κs a r e ≡ bit_rows_told κs a r e
bit_rows_same κs a r e = refl

abbrev pub identity_key_switching_told : Claims identity_key_switching.ended
identity_key_switching_told κs a r e =
    AllOf (all_models {Base = nothing} {Know = no_know} (λ w. (identity_key_switching.clauses w.𝓛 w.𝓜.mem w.𝓡.returns κs a).ensures tt r e) (λ w. r_fact _ _ (r_last _)) (λ w. refl) (λ w. refl) (λ w. refl)).tells

pub identity_key_switching_same : (κs : Lfts (identity_key_switching.ended).signature.lifetimes) (a : Args (identity_key_switching.ended).signature κs) (r : Res (identity_key_switching.ended).signature κs) (e : AtExit identity_key_switching.ended κs) → identity_key_switching_made.Reads.Learnt κs a r e ≡ identity_key_switching_told κs a r e
identity_key_switching_same κs a r e = refl

abbrev pub blind_rotate_told : Claims blind_rotate.ended
blind_rotate_told κs a r e =
    AllOf (all_models {Base = nothing} {Know = no_know} (λ w. (blind_rotate.clauses w.𝓛 w.𝓜.mem w.𝓡.returns κs a).ensures tt r e) (λ w. r_fact _ _ (r_fact _ _ (r_last _))) (λ w. refl) (λ w. refl) (λ w. refl)).tells

pub blind_rotate_same : (κs : Lfts (blind_rotate.ended).signature.lifetimes) (a : Args (blind_rotate.ended).signature κs) (r : Res (blind_rotate.ended).signature κs) (e : AtExit blind_rotate.ended κs) → blind_rotate_made.Reads.Learnt κs a r e ≡ blind_rotate_told κs a r e
blind_rotate_same κs a r e = refl

abbrev pub gate_told : Claims gate.ended
gate_told κs a r e =
    AllOf (all_models {Base = nothing} {Know = no_know} (λ w. (gate.clauses w.𝓛 w.𝓜.mem w.𝓡.returns κs a).ensures tt r e) (λ w. r_fact _ _ (r_last _)) (λ w. refl) (λ w. refl) (λ w. refl)).tells

pub gate_same : (κs : Lfts (gate.ended).signature.lifetimes) (a : Args (gate.ended).signature κs) (r : Res (gate.ended).signature κs) (e : AtExit gate.ended κs) → gate_made.Reads.Learnt κs a r e ≡ gate_told κs a r e
gate_same κs a r e = refl
