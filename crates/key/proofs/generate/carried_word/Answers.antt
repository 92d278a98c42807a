-- `key::generate::carried_word` meets its contract: products modulo 2^32 go by their factors.
-- Assumes nothing.
use Prim.Native.Nat.{◌+◌, ◌*◌, ◌-◌}
use Rattle.key.proofs.Draws.{carried_code}
use Rattle.key.proofs.generate.carried_word.Goals as goal

pub returns : goal.returns
returns c =
    let g = c.args in
    carried_code g.k g.z (32 - (g.j + 1) * g.basebit) c.mul.ensures c.power.ensures c.mul-2.ensures
