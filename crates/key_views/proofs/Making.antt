-- How making a view is proved by such a walk, once for both: the code calls a routine that hands back a part of the lent slice, and puts that into the struct. So whatever is promised of the part is
-- promised of the view's slice.
-- Assumes nothing.
use mathlib.Core.Path.{refl}
use Prim.Native.Nat.{ℕ}
use mathlib.Core.List.{List, [], ◌∷◌}
use lib.Dec.{T as Holds}
use seplogic.Ra.Ura.{Ura}
use mir.Syntax.{Callee, Ty, ty_int, ty_ref, imm, named, erased, w32, place, copy, aggregate, assign, call, seq, return, local, value_local, Fn}
use mir.Val.{Val, WT, has_ty, vstruct, vnil, vcons}
use base.Logic.{SProp, ent, sep, emp, id⊢}
use prog.Wp.{Calls, Loops, WpFn}
use types.Logic.{Logic, sem}
use contract.Lifetimes.{Lfts, Shares, toks}
use types.Kit.{‵, raw, ◌⊛◌, given, some, later, ◌$◌, ◌∵◌, !, qed, by, move, use1, split, join, learn, pick, show, frame, updating, await, now as at_once, done}
use types.Part.{agg}
use types.Run.{look, init, stop, from, load, and_then, no_more, assigns, land, returns, enter, alloc1, alloc0, params1, pass1, pass0, free0}
use sound.WpLaws.{FmC}
use denote.RattleType.{RattleType, mirs, flat}
use denote.Laws.{Typed, Is}
use denote.Builtin.{u32, SliceRefOf}
use denote.Ref.{Bor, NamedLft}
use denote.Signature.{Signature, Slot, named_lft, plain}
use denote.Slice.{ShrSlice, slice_ty, shr_slice_Lawful}
use denote.Triple.Statement.{Triple}
use denote.Triple.Call.{calls_at}
use denote.Triple.Entry.{Args, Vals, Res, on_entry}
use denote.Triple.Spec.{Spec, Back, Meets, triple_of}
use Rattle.params.specs.contracts.Params as P
use Rattle.params.proofs.Params.TheLaws as P'
use Rattle.key_views.proofs.Thin.{Knowns, asked, params_known, slice_known, landed, param_types, lent, meets, freed}

-- the machine value of the view over the slice whose machine value is u
abbrev pub held : Val → Val
held u = vstruct (vcons u vnil)

-- the signature of a routine that takes the parameters and a slice, by its result
abbrev pub signature_of : Slot 1 → Signature
signature_of result = record { lifetimes = 1; outlives = []; params = plain (λ κs. P.the_row) ∷ SliceRefOf (0 ∷ []) tt (plain (λ κs. u32)) (λ κs. tt) ∷ []; result = result }

abbrev pub part_signature : Signature
part_signature = signature_of (SliceRefOf (0 ∷ []) tt (plain (λ κs. u32)) (λ κs. tt))

-- the code: f is called, and its result is put into a struct of the type τ
abbrev pub making : Ty → Callee → Fn
making τ f = record {
  lifetimes = 1;
  outlives = [];
  ty_params = [];
  givens = 0;
  params = 2;
  locals = local τ value_local ∷ local P'.mir value_local ∷ local (slice_ty (ty_ref (named 0) imm (ty_int w32))) value_local ∷ local (slice_ty (ty_ref erased imm (ty_int w32))) value_local ∷ [];
  body = seq (call f (copy (place 1 []) ∷ copy (place 2 []) ∷ []) (place 3 [])) (seq (assign (place 0 []) (aggregate (copy (place 3 []) ∷ []))) return);
}

-- row is the view's type, of puts a slice into a view, and τ is the view's type in the code
module _ {M : Type 1} {𝓤 : Ura M} (𝓛 : Logic 𝓤) (row : NamedLft → RattleType) (of : (α : NamedLft) → Bor (List ℕ) → (row α).Denot) (τ : Ty)
    (view : (α : NamedLft) (r : Bor (List ℕ)) (u : Val) → ent 𝓤 (sem 𝓛 ((ShrSlice α.mir α.lft u32).own_val r (u ∷ []))) (sem 𝓛 ((row α).own_val (of α r) (held u ∷ []))))
    (typed : (κs : Lfts 1) (r : Bor (List ℕ)) (u : Val) → Is (ShrSlice (named 0) κs.0 u32) r (u ∷ []) → Holds (has_ty τ (held u)) × WT (held u)) where
  open 𝓛 use {H}

  abbrev view_signature : Signature
  view_signature = signature_of (plain (λ κs. row (named_lft 1 0 tt κs)))

  -- what is promised of the part, and of the view
  module _ (part : (κs : Lfts 1) → Args part_signature κs → Bor (List ℕ) → SProp 𝓤) (viewed : (κs : Lfts 1) → Args view_signature κs → Res view_signature κs → SProp 𝓤)
      (same : (κs : Lfts 1) (a : Args part_signature κs) (r : Bor (List ℕ)) → ent 𝓤 (part κs a r) (viewed κs a (of (named_lft 1 0 tt κs) r))) where
    abbrev partly : Spec 𝓤 part_signature
    partly κs a = record { ghost = Unit {0}; requires = λ g. emp 𝓤; ensures = λ g r. part κs a r }

    abbrev whole : Spec 𝓤 view_signature
    whole κs a = record { ghost = Unit {0}; requires = λ g. emp 𝓤; ensures = λ g r. viewed κs a r }

    abbrev known : (κs : Lfts 1) → Knowns 𝓛 (param_types 𝓛 view_signature whole κs)
    known κs = (params_known 𝓛, (slice_known 𝓛 (named 0) κs.0, tt))

    module _ (κs : Lfts 1) (qs : Shares 1) (a : Args view_signature κs) where
      abbrev α : NamedLft
      α = named_lft 1 0 tt κs

      abbrev Ts : List RattleType
      Ts = param_types 𝓛 view_signature whole κs

      -- what the call is lent, and so its callee
      abbrev vs : Vals view_signature κs
      vs = lent 𝓛 view_signature whole known κs a

      abbrev to : (triple_of 𝓛 part_signature partly).Ghost
      to = ((κs, qs, tt, a, vs), tt)

      apart : ent 𝓤 (on_entry 𝓛 view_signature κs qs a vs) ((triple_of 𝓛 part_signature partly).pre to)
      apart = asked 𝓛 (toks 𝓛 1 κs qs) Ts Ts a a vs vs (id⊢ 𝓤 _, (id⊢ 𝓤 _, tt))

      made : (u : Val) → ent 𝓤 ((triple_of 𝓛 part_signature partly).post to u) ((triple_of 𝓛 view_signature whole).post ((κs, qs, tt, a, vs), tt) (held u))
      made u =
          qed 𝓛 (later (some (λ (r : Bor (List ℕ)). (raw (toks 𝓛 1 κs qs) ⊛ ‵ ((ShrSlice (named 0) κs.0 u32).own_val r (u ∷ []))) ⊛ raw (part κs a r))) ∷ []) ∵ updating ! $ await ! tt $ pick ! (λ r. at_once ! $
          show ! (λ (d : Res view_signature κs). sep 𝓤 (Back 𝓛 view_signature (κs, qs, tt, a, vs) (held u) d) (viewed κs a d)) (of α r) $
          split ! $ split ! $ move ! (1 ∷ []) $ use1 𝓛 (‵ ((row α).own_val (of α r) (held u ∷ []))) (view α r u) $ move ! (2 ∷ []) $ use1 𝓛 (raw (viewed κs a (of α r))) (same κs a r) $ move ! (2 ∷ 1 ∷ []) $ join ! $ frame ! $ done !)

      walk : (C : Calls 𝓤 H) (Λ : Loops 𝓤 H) → FmC 𝓤 H 𝓛.laws C → (f : Callee) → Triple 𝓤 (C f) (triple_of 𝓛 part_signature partly) → Typed (mirs Ts) (flat Ts vs)
          → ent 𝓤 (on_entry 𝓛 view_signature κs qs a vs) (WpFn 𝓤 H C Λ (making τ f) (flat Ts vs) ((triple_of 𝓛 view_signature whole).post ((κs, qs, tt, a, vs), tt)))
      walk C Λ fm f met t =
          qed 𝓛 (raw (on_entry 𝓛 view_signature κs qs a vs) ∷ []) ∵ enter ! C Λ (making τ f) (flat Ts vs) _ $
          alloc1 ! (λ l₀. alloc1 ! (λ l₁. alloc1 ! (λ l₂. alloc1 ! (λ l₃. alloc0 ! $ params1 ! $ pass1 ! (init ! 4 refl t.0) $ pass1 ! (init ! 2 refl t.1.0) $ pass0 ! $
          -- [_3; …; _2; …; _1; …; room for _0; …; what is had on entry]
          move ! (8 ∷ []) $ use1 𝓛 (raw ((triple_of 𝓛 part_signature partly).pre to)) apart $
          calls_at ! fm (triple_of 𝓛 part_signature partly) met to (and_then ! (load ! (from ! (stop !)) (look ! 5 refl)) (and_then ! (load ! (from ! (stop !)) (look ! 3 refl)) (no_more !))) (λ u.
          use1 𝓛 (later (given (Typed (ShrSlice erased κs.0 u32).mir (u ∷ []) × (Holds (has_ty τ (held u)) × WT (held u))) (raw ((triple_of 𝓛 part_signature partly).post to u))))
          (landed 𝓛 part_signature partly to u _ (λ r is. ((shr_slice_Lawful 𝓛 erased κs.0 u32).typed r (u ∷ []) is, typed κs r u is))) $ await ! tt $ learn ! (λ is.
          land ! (from ! (stop !)) (init ! 1 refl is.0.0) $ assigns ! (agg ! (and_then ! (load ! (from ! (stop !)) (look ! 1 refl)) (no_more !))) (from ! (stop !)) (init ! 7 refl is.1) $ returns ! (look ! 7 refl) $
          move ! (7 ∷ 8 ∷ 5 ∷ 6 ∷ 3 ∷ 4 ∷ 1 ∷ 2 ∷ []) $ freed ! $ freed ! $ freed ! $ freed ! $ free0 ! $ by ! (made u)))))))

    -- the code meets the promise of the view where its callee meets that of the part
    pub makes : (C : Calls 𝓤 H) (Λ : Loops 𝓤 H) → FmC 𝓤 H 𝓛.laws C → (f : Callee) → Triple 𝓤 (C f) (triple_of 𝓛 part_signature partly) → Meets 𝓛 view_signature (WpFn 𝓤 H C Λ (making τ f)) whole
    makes C Λ fm f met = meets 𝓛 view_signature whole known (WpFn 𝓤 H C Λ (making τ f)) (λ κs qs bounds a g. walk κs qs a C Λ fm f met)
