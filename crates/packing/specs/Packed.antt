-- How an answer crosses into C: one number of 64 bits.
use Rattle.std.specs.Prelude.{cond, ℕ, ◌+◌, ◌*◌, ltb, Result, Ok, Err}
use Rattle.ring.specs.Word.{Q}
use Rattle.params.specs.declared.refusal.Refusal.{Refusal}
use Rattle.params.specs.declared.refusal.Refusal.TheVariants.{Parameters, Length, Index, KeyWord, Modulus, Mark, Version, Count, Gate, Output, Text, Limit, Wires}
use Rattle.params.specs.Refusal.{Outcome, number}

-- A place or a length of any size as 32 bits tell it: 2^32 - 1 stands for itself and for all above it.
unfoldable pub capped : ℕ → ℕ
capped v = cond (ltb v 4294967295) v 4294967295

-- A refusal's place as 32 bits tell it: that of a text may be of any size.
abbrev pub place_told : Refusal → ℕ
place_told Parameters = 0
place_told Length = 0
place_told Index = 0
place_told KeyWord = 0
place_told Modulus = 0
place_told Mark = 0
place_told Version = 3
place_told (Count at) = at
place_told (Gate at) = at
place_told (Output at) = at
place_told (Text at) = capped at
place_told (Limit at) = capped at
place_told Wires = 0

-- An outcome with a value beside it: the refusal's number in the low half; in the high half the value where the call did its work, the place where it refused.
abbrev pub packed_value : Result ℕ Refusal → ℕ
packed_value (Ok v) = v * Q
packed_value (Err r) = number r + place_told r * Q

-- An outcome without one: 0 where the call did its work.
abbrev pub packed : Outcome → ℕ
packed (Ok v) = 0
packed (Err r) = packed_value (Err r)

-- The version of the interface: one more with each release in which a function of it is added, taken away or changed.
abbrev pub interface_version : ℕ
interface_version = 7
