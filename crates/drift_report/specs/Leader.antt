-- Which drift leads: the one that is largest in absolute value, with its wire, the earliest at a tie (02, 2026-05).
use Rattle.std.specs.Prelude.{cond, List, ℕ, zero, suc, eqb, ltb}
use Rattle.ring.specs.Word.{at}
use Rattle.drift_report.specs.declared.leading.Leader.{Leader}
use Rattle.drift_size.specs.Size.{magnitude}

-- Of two the one whose drift is larger in absolute value, the first at a tie.
unfoldable pub ahead : Leader → Leader → Leader
ahead a b = cond (ltb (magnitude a.drift) (magnitude b.drift)) b a

-- The leader of the first m drifts; zeros of none.
unfoldable pub leader_to : List ℕ → ℕ → Leader
leader_to ds zero = record { drift = 0; wire = 0 }
leader_to ds (suc m) = ahead (leader_to ds m) (record { drift = at ds m; wire = m })

-- Of two that lead among so many wires each: the first where the second has no wires, the second where the first has none, else the one that is ahead.
unfoldable pub lead_of : Leader → ℕ → Leader → ℕ → Leader
lead_of a wires b more = cond (eqb more 0) a (cond (eqb wires 0) b (ahead a b))
