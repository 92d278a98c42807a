-- Answers at the ends of what 32 bits tell, by computing.
-- Assumes nothing.
use mathlib.Core.Path.{◌≡◌, refl}
use Rattle.std.specs.Prelude.{Ok, Err}
use Rattle.params.specs.declared.refusal.Refusal.TheVariants.{Text, Limit}
use Rattle.ring.specs.Word.{Q}
use Rattle.packing.specs.Packed.{capped, packed_value}

-- places and lengths up to 2^32 - 2 as they are, then 2^32 - 1
ends : (capped 4294967294 ≡ 4294967294) × (capped 4294967295 ≡ 4294967295) × (capped 4294967296 ≡ 4294967295)
unfolding capped
ends = (refl, refl, refl)

-- the place beside a refusal, the length beside 0
texts : (packed_value (Err (Text 17)) ≡ 73014444043) × (packed_value (Ok (capped 8331)) ≡ 35781372542976) × (packed_value (Err (Limit 4294967296)) ≡ 18446744069414584332)
unfolding capped Q
texts = (refl, refl, refl)
