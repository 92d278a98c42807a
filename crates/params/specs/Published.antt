-- The sets of src/params.rs: n, NBIT, BGBIT, L, BASEBIT and IKS_T of each, the noise left out (noise is lent).
use Rattle.std.specs.Prelude.{ℕ}
use Rattle.params.specs.declared.Params.{Params}

-- The six numbers in the record's order.
abbrev pub numbers : ℕ → ℕ → ℕ → ℕ → ℕ → ℕ → Params
numbers n nbit bgbit l basebit t = record { n = n; nbit = nbit; bgbit = bgbit; l = l; basebit = basebit; t = t }

-- `SECURITY_80_BIT`.
abbrev pub security80 : Params
security80 = numbers 550 10 6 3 2 7

-- `SECURITY_110_BIT`.
abbrev pub security110 : Params
security110 = numbers 630 10 6 3 2 8

-- `SECURITY_128_BIT`.
abbrev pub security128 : Params
security128 = numbers 700 10 6 3 2 9

-- `SECURITY_UINT1`.
abbrev pub uint1 : Params
uint1 = numbers 700 10 10 2 2 8

-- `SECURITY_UINT2`.
abbrev pub uint2 : Params
uint2 = numbers 687 10 18 1 4 3

-- `SECURITY_UINT3`.
abbrev pub uint3 : Params
uint3 = numbers 820 10 23 1 6 2

-- `SECURITY_UINT4`.
abbrev pub uint4 : Params
uint4 = numbers 820 10 22 1 5 3

-- `SECURITY_UINT5`.
abbrev pub uint5 : Params
uint5 = numbers 1071 10 22 1 6 3

-- `SECURITY_UINT6`.
abbrev pub uint6 : Params
uint6 = numbers 1071 10 22 1 6 3

-- `SECURITY_UINT7`, which document 01 refuses.
abbrev pub uint7 : Params
uint7 = numbers 1160 10 22 1 7 3

-- `SECURITY_UINT8`, which document 01 refuses.
abbrev pub uint8 : Params
uint8 = numbers 1160 10 22 1 7 3
