-- What the routines inside this crate promise each other: what holds where nothing is refused. A reader of the public contracts can leave it.
use Rattle.std.specs.Prelude.{◌≡◌, List, ℕ, ◌+◌, ◌*◌}
use Rattle.params.specs.declared.Params.{Params}
use Rattle.params.specs.Ranges.{params_number}
use Rattle.params.specs.Sizes.{switching_words, bootstrapping_words}
use Rattle.circuit.specs.Form.{inputs, outputs, wires}
use Rattle.circuit.specs.Valid.{Valid}

-- Of the key material.
pub record KeysGood (p : Params) (lk ls : ℕ) : Type 0 where
  pub good : params_number p ≡ 0
  pub switching : lk ≡ switching_words p
  pub bootstrapping : ls ≡ bootstrapping_words p

-- Of one gate of a run.
pub record StepGood (p : Params) (lk ls : ℕ) (bs : List ℕ) (lw : ℕ) : Type 0 where
  pub keys : KeysGood p lk ls
  pub valid : Valid bs
  pub wires_length : lw ≡ wires bs * (p.n + 1)

-- Of a run.
pub record RunGood (p : Params) (lk ls : ℕ) (bs : List ℕ) (li lw lo : ℕ) : Type 0 where
  pub step : StepGood p lk ls bs lw
  pub ins_length : li ≡ inputs bs * (p.n + 1)
  pub outs_length : lo ≡ outputs bs * (p.n + 1)
