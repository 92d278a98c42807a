-- `encrypted_run::steps::put_at` meets its contract: the ciphertext goes over the n + 1 words of its place.
-- Assumes nothing.
use Prim.Native.Nat.{◌+◌}
use Rattle.encrypted_run.proofs.Wires.{put_made}
use Rattle.encrypted_run.proofs.steps.put_at.Goals as goal

pub returns : goal.returns
returns c = let g = c.args in put_made (g.p.n + 1) g.w g.c.now g.into.now c.requires.0 c.requires.1 c.copy.ensures
