-- What only private contracts need: the ranges as tests.
use Rattle.std.specs.Prelude.{Bool, ◌*◌, ◌&&◌, leb}
use Rattle.params.specs.declared.Params.{Params}

-- n 1..1,100; NBIT 1..10.
abbrev pub sizes_fit : Params → Bool
sizes_fit p = leb 1 p.n && (leb p.n 1100 && (leb 1 p.nbit && leb p.nbit 10))

-- BGBIT 1..24, L at least 1, L·BGBIT at most 32.
abbrev pub gadget_fits : Params → Bool
gadget_fits p = leb 1 p.bgbit && (leb p.bgbit 24 && (leb 1 p.l && leb (p.l * p.bgbit) 32))

-- BASEBIT 1..6, T at least 1, BASEBIT·T at most 30.
abbrev pub switching_fits : Params → Bool
switching_fits p = leb 1 p.basebit && (leb p.basebit 6 && (leb 1 p.t && leb (p.basebit * p.t) 30))

-- All six numbers are in their ranges.
unfoldable pub fits : Params → Bool
fits p = sizes_fit p && (gadget_fits p && switching_fits p)
