-- Demand 3 for the circuit of a text in the Bristol Fashion form: where the drifts of its encrypted run are inside, each output decrypts to the text's Boolean meaning on the
-- plain inputs. The circuit is valid and means what the text means, so that demand 3 for circuits says it.
-- Assumes nothing.
use mathlib.Core.Path.{◌≡◌, sym, ap, ◌∙◌}
use mathlib.Core.Bool.{true}
use mathlib.Core.List.{List}
use Prim.Native.Nat.{ℕ, ◌+◌, ◌*◌, ◌<◌}
use native.Mathlib.Omega.{arith}
use lib.ListN.{length}
use Rattle.ring.specs.Word.{at}
use Rattle.ring.specs.Bit.{truth}
use Rattle.ring.specs.Phase.{phase_of}
use Rattle.params.specs.declared.Params.{Params}
use Rattle.params.specs.Ranges.{InRange}
use Rattle.tlwe.specs.Key.{binary}
use Rattle.tlwe.specs.Decrypt.{bit_of}
use Rattle.ways.specs.Ciphers.{cipher_at}
use Rattle.encrypted_run.specs.Run.{ciphers_of, output_ciphers}
use Rattle.drift.specs.Circuit.{all_inside}
use Rattle.drift.proofs.Demand.{demand_three}
use Rattle.drift_run.specs.Run.{Decrypts}
use Rattle.bristol_form.specs.Says.{inputs, outputs}
use Rattle.bristol_form.specs.Valid.{InForm, InLimits}
use Rattle.bristol_form.specs.Meaning.{meaning_of}
use Rattle.bristol.specs.Import.{imported}
use Rattle.bristol.proofs.ImportedBytes.{inputs_is, outputs_is}
use Rattle.bristol.proofs.Laws.{imported_valid, imported_means}

-- For the encrypted run, over anything that the key material and the ciphertexts hold.
pub imported_decrypts : (text : List ℕ) → InForm text → InLimits text
    → (p : Params) → InRange p → (key z : List ℕ) → binary key ≡ true → (ksk bsk ins plain : List ℕ) → length ins ≡ inputs text * (p.n + 1)
    → all_inside p key z ksk bsk (imported text) ins plain ≡ true
    → (o : ℕ) → o < outputs text
    → bit_of (phase_of p.n key (cipher_at p (output_ciphers p (imported text) (ciphers_of p ksk bsk (imported text) ins)) o)) ≡ truth (at (meaning_of text plain) o)
imported_decrypts text form limits p r key z binary_key ksk bsk ins plain li i o l =
    let c = outputs_is text in
    demand_three p r key z binary_key ksk bsk (imported text) ins plain (imported_valid text form limits) (li ∙ ap (λ (n : ℕ). n * (p.n + 1)) (sym (inputs_is text))) i o (omega arith)
    ∙ ap (λ (bits : List ℕ). truth (at bits o)) (imported_means text form limits plain)

-- For a call of `drift_run` on the circuit's bytes, whose clause `right` gives this where it tells inside.
pub told_decrypts : (text : List ℕ) → InForm text → InLimits text
    → (p : Params) (key plain out : List ℕ) (o : ℕ) → Decrypts p key (imported text) plain out o → bit_of (phase_of p.n key (cipher_at p out o)) ≡ truth (at (meaning_of text plain) o)
told_decrypts text form limits p key plain out o right = right ∙ ap (λ (bits : List ℕ). truth (at bits o)) (imported_means text form limits plain)
