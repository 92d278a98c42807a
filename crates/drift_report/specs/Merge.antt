-- Two reports merged (02, 2026-05), of any records: they come from anywhere (docs/DECISIONS.md, 'The drift report').
use Rattle.std.specs.Prelude.{ℕ, ◌+◌, ◌%◌}
use Rattle.ring.specs.Word.{Q}
use Rattle.ring.specs.Poly.{plus}
use Rattle.drift_report.specs.declared.leading.Leader.{Leader}
use Rattle.drift_report.specs.declared.Report.{Report}
use Rattle.drift_report.specs.Leader.{lead_of}
use Rattle.drift_report.specs.Report.{sizes, reported}

-- A record's leader: its largest drift and that drift's wire.
abbrev pub leader : Report → Leader
leader r = record { drift = r.largest.0; wire = r.wire }

-- A leader so many places further on, modulo 2^32.
abbrev pub moved : ℕ → Leader → Leader
moved places l = record { drift = l.drift; wire = (places + l.wire) % Q }

-- The first's wires, then the second's: counts add modulo 2^32, and a wire of the second is moved by the first's total.
unfoldable pub merged : Report → Report → Report
merged a b = reported (plus sizes a.counts b.counts) (lead_of (leader a) a.total (moved a.total (leader b)) b.total) (a.total + b.total)
