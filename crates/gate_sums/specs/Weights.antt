-- A kind's sum as the code holds it: the record of its multiples as words.
use Rattle.std.specs.Prelude.{◌*◌, ◌%◌}
use Rattle.ring.specs.Word.{Q, eighth}
use Rattle.ring.specs.Centre.{word_of}
use Rattle.gate_sums.specs.declared.Kind.{Kind}
use Rattle.gate_sums.specs.declared.Weights.{Weights}
use Rattle.gate_sums.specs.Kind.{row_of}

-- The table's row of a kind: its multiples of a and b, and what is added to the last word.
unfoldable pub weights_of : Kind → Weights
weights_of kind = record { a = word_of (row_of kind).a; b = word_of (row_of kind).b; added = word_of (row_of kind).eighths * eighth % Q }
