use mathlib.Core.Path.{◌≡◌}
use mathlib.Core.List.{List, ◌++◌}
use Prim.Native.Nat.{ℕ, ◌+◌, ◌*◌}
use lib.ListN.{length, drop}
use Rattle.params.specs.declared.Params.{Params}
use Rattle.circuit.specs.Form.{output_at}
use Rattle.ways.specs.Ciphers.{cipher_at}
use Rattle.ring.specs.Lists.{joined}
use Rattle.encrypted_run.proofs.steps.outputs_into.Given as goal

-- output o's ciphertext
abbrev pub output_cipher : Params → List ℕ → List ℕ → ℕ → List ℕ
output_cipher p bs ws o = cipher_at p ws (output_at bs o)

abbrev pub invariant-loop-o : goal.invariant-loop-o
invariant-loop-o l =
    (length l.out ≡ length l.initial.out) × (length (joined l.o (output_cipher l.p l.bytes l.wires)) ≡ l.o * (l.p.n + 1))
    × (l.out ≡ joined l.o (output_cipher l.p l.bytes l.wires) ++ drop (l.o * (l.p.n + 1)) l.initial.out)
