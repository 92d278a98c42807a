-- The numbers of the kinds (01, 'Circuits').
use Rattle.std.specs.Prelude.{◌≡◌, Result, Ok, Err, ℕ, ◌<◌}
use Rattle.kinds.specs.declared.kind.Kind.{Kind}
use Rattle.kinds.specs.declared.kind.Kind.TheVariants.{False, True, Not, And, Or, Nand, Nor, Xor, Xnor, AndNy, AndYn, OrNy, OrYn, Mux}
use Rattle.kinds.specs.declared.kind.NoKind.{NoKind}
use Rattle.kinds.specs.Kinds.{last_kind}

-- The number of a kind: its place in the table.
abbrev pub number : Kind → ℕ
number False = 0
number True = 1
number Not = 2
number And = 3
number Or = 4
number Nand = 5
number Nor = 6
number Xor = 7
number Xnor = 8
number AndNy = 9
number AndYn = 10
number OrNy = 11
number OrYn = 12
number Mux = 13

-- What the number n stands for: the kind whose number it is, and an error past the last kind alone.
abbrev pub Numbered : ℕ → Result Kind NoKind → Type 0
Numbered n (Ok kind) = number kind ≡ n
Numbered n (Err e) = (e.0 ≡ n) × (last_kind < n)
