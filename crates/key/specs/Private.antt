-- What only proofs and private contracts of this crate need.
use Rattle.std.specs.Prelude.{◌≡◌, ℕ, ◌*◌}
use Rattle.params.specs.declared.Params.{Params}
use Rattle.params.specs.Ranges.{InRange}
use Rattle.params.specs.Sizes.{size, switching_rows}

-- What generation is lent where nothing is refused: the lengths of the two keys, the masks and the noise.
pub record Lent (p : Params) (key z masks noise : ℕ) : Type 0 where
  pub range : InRange p
  pub key_length : key ≡ p.n
  pub z_length : z ≡ size p
  pub masks_length : masks ≡ switching_rows p * p.n
  pub noise_length : noise ≡ switching_rows p
