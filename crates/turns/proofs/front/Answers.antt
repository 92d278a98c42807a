-- `turns::front` meets its contract: it refuses as the phase does, and the rounded phase less the phase is what rounding brings in.
-- Assumes nothing.
use Rattle.std.proofs.Common.{◌≡◌, refl, sym, ap, ◌∙◌}
use Prim.Native.Nat.{◌<◌}
use Rattle.std.specs.Prelude.{Ok}
use Rattle.ring.specs.Word.{Q, at}
use Rattle.ring.specs.Phase.{phase_of}
use Rattle.params.proofs.Answers.{given_ok, given_done}
use Rattle.params.proofs.Ranges.{in_range}
use Rattle.utils.specs.declared.Torus.{Torus}
use Rattle.turns.specs.Front.{front_place, front_rounding}
use Rattle.drift.specs.PrivateShort.{place_of}
use Rattle.turns.specs.declared.Rounded.{Rounded}
use Rattle.turns.proofs.Given.{checked_is, value_is}
use Rattle.turns.proofs.Steps.{rounding_is}
use Rattle.turns.proofs.Words.{fitting, place_told, rounding_told}
use Rattle.turns.proofs.front.Goals as goal

pub place_of-place-requires : goal.place_of-place-requires
place_of-place-requires c = rw (checked_is c.args.p c.in_ok-c.ensures).0 (fitting _ _ _ (given_ok _ _ (sym c.in_ok-phase.ensures)))

pub returns : goal.returns
unfolding Q
returns c =
    let g = c.args in
    let checked = checked_is g.p c.in_ok-c.ensures in
    let z = given_ok _ _ (sym c.in_ok-phase.ensures) in
    let last_below : at g.src.now g.p.n < Q = (c.type_inv.src g.p.n).fits in
    let phase : c.in_ok-phase.phase.0 ≡ phase_of g.p.n g.key.now g.src.now = ap (λ (t : Torus). t.0) (value_is _ _ c.in_ok-phase.ensures z refl) in
    let place : c.place_of-place.result ≡ place_of g.p g.key.now g.src.now = rw checked.0 at c.place_of-place.ensures in
    let rounding : c.sub.result ≡ front_rounding g.p g.key.now g.src.now =
    rounding_is g.p (in_range g.p checked.1) g.key.now g.src.now last_below place c.power.ensures c.mul-near.ensures phase c.sub.ensures ∙ sym (rounding_told g.p g.key.now g.src.now)
    in
    let same : c.place_of-place.result ≡ front_place g.p g.key.now g.src.now = place ∙ sym (place_told g.p g.key.now g.src.now) in
    let both : ◌≡◌ {A = Rounded} (record { place = c.place_of-place.result; rounding = record { 0 = c.sub.result } }) (record { place = front_place g.p g.key.now g.src.now; rounding = record { 0 = front_rounding g.p g.key.now g.src.now } }) =
    λ i. record { place = same i; rounding = record { 0 = rounding i } }
    in
    ap Ok both ∙ sym (given_done _ _ z)
