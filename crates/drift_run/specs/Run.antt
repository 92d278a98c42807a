-- What a drift run and one gate of it tell and leave in the lent slices (01, Drift): the encrypted run's wires and outputs, each wire's drift as a word, and whether all
-- that demand 3 names are inside.
use Rattle.std.specs.Prelude.{Bool, false, cond, ◌≡◌, List, [], ◌∷◌, ◌++◌, map, ℕ, ◌+◌, ltb, ℤ, length, take, drop}
use Rattle.ring.specs.Word.{at}
use Rattle.ring.specs.Centre.{centre, word_of}
use Rattle.params.specs.declared.Params.{Params}
use Rattle.params.specs.Refusal.{if_done}
use Rattle.tlwe.specs.declared.Level.TheVariants.{Zero}
use Rattle.tlwe.specs.Key.{keyed_number}
use Rattle.tlwe.specs.Decrypt.{bit_of}
use Rattle.circuit.specs.Form.{inputs, gates}
use Rattle.circuit.specs.Plain.{output_bits}
use Rattle.ways.specs.Ciphers.{cipher_at}
use Rattle.encrypted_run.specs.Run.{ciphers_of, output_ciphers, wires_before, stepped}
use Rattle.drift.specs.Whole.{fresh_drift}
use Rattle.drift.specs.Circuit.{gate_drift_on, gate_brought_on, drifts_of, all_of, worst_of, all_inside}
use Rattle.drift_run.specs.declared.Brought.{Brought}
use Rattle.drift_run.specs.Refusals.{drift_answer, drift_gate_answer}
use Rattle.ring.specs.Bit.{truth}
use Rattle.ring.specs.Phase.{phase_of}

-- Whole numbers as words.
abbrev pub words_of : List ℤ → List ℕ
words_of ds = map word_of ds

-- Words read as signed: the drifts that a slice holds.
abbrev pub signed_of : List ℕ → List ℤ
signed_of ws = map centre ws

-- Output o of a run decrypts to the bit that the circuit gives on the plain bits.
abbrev pub Decrypts : Params → List ℕ → List ℕ → List ℕ → List ℕ → ℕ → Type 0
Decrypts p key bs plain out o = bit_of (phase_of p.n key (cipher_at p out o)) ≡ truth (at (output_bits bs plain) o)

-- A fresh drift as a word; 0 where the call is refused.
unfoldable pub fresh_value : Params → List ℕ → List ℕ → Bool → ℕ
fresh_value p key c bit = if_done (keyed_number p Zero (length c) key) (word_of (fresh_drift p key c bit)) 0

-- ---- a run: the slices held ws, out and ds

-- The number of its answer.
abbrev pub drift_run_number : Params → List ℕ → List ℕ → List ℕ → List ℕ → List ℕ → List ℕ → List ℕ → List ℕ → List ℕ → List ℕ → ℕ
drift_run_number p ksk bsk key z bs ins plain ws out ds =
    (drift_answer p (length ksk) (length bsk) key z bs (length ins) (length plain) (length ws) (length out) (length ds)).number

-- Are all that demand 3 names inside? False where the call is refused.
unfoldable pub inside_after : Params → List ℕ → List ℕ → List ℕ → List ℕ → List ℕ → List ℕ → List ℕ → List ℕ → List ℕ → List ℕ → Bool
inside_after p ksk bsk key z bs ins plain ws out ds = if_done (drift_run_number p ksk bsk key z bs ins plain ws out ds) (all_inside p key z ksk bsk bs ins plain) false

-- The wires' slice: every wire's ciphertext.
unfoldable pub drift_wires_after : Params → List ℕ → List ℕ → List ℕ → List ℕ → List ℕ → List ℕ → List ℕ → List ℕ → List ℕ → List ℕ → List ℕ
drift_wires_after p ksk bsk key z bs ins plain ws out ds = if_done (drift_run_number p ksk bsk key z bs ins plain ws out ds) (ciphers_of p ksk bsk bs ins) ws

-- The outputs' slice.
unfoldable pub drift_outputs_after : Params → List ℕ → List ℕ → List ℕ → List ℕ → List ℕ → List ℕ → List ℕ → List ℕ → List ℕ → List ℕ → List ℕ
drift_outputs_after p ksk bsk key z bs ins plain ws out ds = if_done (drift_run_number p ksk bsk key z bs ins plain ws out ds) (output_ciphers p bs (ciphers_of p ksk bsk bs ins)) out

-- The drifts' slice: every wire's drift, as a word.
unfoldable pub drifts_after : Params → List ℕ → List ℕ → List ℕ → List ℕ → List ℕ → List ℕ → List ℕ → List ℕ → List ℕ → List ℕ → List ℕ
drifts_after p ksk bsk key z bs ins plain ws out ds = if_done (drift_run_number p ksk bsk key z bs ins plain ws out ds) (words_of (drifts_of p key z ksk bsk bs ins plain)) ds

-- ---- one gate of it: the slices held ws and ds

-- The drifts of the wires before gate g.
abbrev pub drifts_before : List ℕ → ℕ → List ℕ → List ℤ
drifts_before bs g ds = signed_of (take (inputs bs + g) ds)

-- The number of its answer.
abbrev pub drift_gate_number : Params → List ℕ → List ℕ → List ℕ → List ℕ → List ℕ → List ℕ → List ℕ → ℕ
drift_gate_number p ksk bsk key z bs ws ds = (drift_gate_answer p (length ksk) (length bsk) key z bs (length ws) (length ds)).number

-- What is brought into the rotations of gate g; nothing where the circuit has no gate g.
unfoldable pub gate_brought : Params → List ℕ → List ℕ → ℕ → List ℕ → List ℕ → List ℤ
gate_brought p key bs g ws ds = cond (ltb g (gates bs)) (gate_brought_on p key bs (wires_before p bs g ws) (drifts_before bs g ds) g) []

-- What a call hands back of it: is all of it inside, and the one that is largest in absolute value, as a word.
abbrev pub brought_of : List ℤ → Brought
brought_of brought = record { inside = all_of brought; worst = record { 0 = word_of (worst_of brought) } }

-- Is all of it inside? False where the call is refused.
unfoldable pub gate_inside : Params → List ℕ → List ℕ → List ℕ → List ℕ → List ℕ → ℕ → List ℕ → List ℕ → Bool
gate_inside p ksk bsk key z bs g ws ds = if_done (drift_gate_number p ksk bsk key z bs ws ds) (all_of (gate_brought p key bs g ws ds)) false

-- The one of it that is largest in absolute value, as a word.
unfoldable pub gate_worst : Params → List ℕ → List ℕ → List ℕ → List ℕ → List ℕ → ℕ → List ℕ → List ℕ → ℕ
gate_worst p ksk bsk key z bs g ws ds = if_done (drift_gate_number p ksk bsk key z bs ws ds) (word_of (worst_of (gate_brought p key bs g ws ds))) 0

-- The wires' slice: gate g's ciphertext in its place.
unfoldable pub gate_wires_after : Params → List ℕ → List ℕ → List ℕ → List ℕ → List ℕ → ℕ → List ℕ → List ℕ → List ℕ
gate_wires_after p ksk bsk key z bs g ws ds = if_done (drift_gate_number p ksk bsk key z bs ws ds) (cond (ltb g (gates bs)) (stepped p ksk bsk bs g ws) ws) ws

-- Gate g's drift in its place.
unfoldable pub drift_stepped : Params → List ℕ → List ℕ → List ℕ → List ℕ → List ℕ → ℕ → List ℕ → List ℕ → List ℕ
drift_stepped p ksk bsk key z bs g ws ds =
    take (inputs bs + g) ds
    ++ (word_of (gate_drift_on p key z ksk bsk bs (wires_before p bs g ws) (drifts_before bs g ds) g) ∷ drop (inputs bs + g + 1) ds)

-- The drifts' slice.
unfoldable pub gate_drifts_after : Params → List ℕ → List ℕ → List ℕ → List ℕ → List ℕ → ℕ → List ℕ → List ℕ → List ℕ
gate_drifts_after p ksk bsk key z bs g ws ds = if_done (drift_gate_number p ksk bsk key z bs ws ds) (cond (ltb g (gates bs)) (drift_stepped p ksk bsk key z bs g ws ds) ds) ds
