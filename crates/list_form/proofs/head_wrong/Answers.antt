-- `list_form::head_wrong` meets its contract: at each `return` the tests that led there say which case of `head_wrong` holds.
use mathlib.Core.Path.{◌≡◌, sym, ap, subst, ◌∙◌}
use mathlib.Core.Bool.{true, false, not, ◌&&◌}
use Prim.Native.Nat.{ℕ, ◌%◌}
use lib.Dec.{eqb, leb}
use Rattle.model.specs.Subobject as M
use Rattle.list_subobject.specs.Types.{TypeIs, number_of}
use Rattle.list_form.specs.Checks.{head_wrong}
use Rattle.list_form.proofs.FormChecks.{no-value}
use Rattle.list_form.proofs.head_wrong.Goals as goal
use Rattle.list_form.proofs.head_wrong.Goals.{In-Some, Else-not-known, Else-top_wrong, After-area_wrong, After-length_fits}

-- what the first tests passed say
typed : (c : In-Some) → c.args.first % 128 ≡ number_of c.in-Some.t
typed c = subst (TypeIs (c.args.first % 128)) c.in-Some.is c.type_of.ensures

known : (c : Else-not-known) → M.known c.args.kind (c.args.first % 128) ≡ true
known c = ap (M.known c.args.kind) (typed (goal.at.Else-not-known c).In-Some) ∙ sym c.known.ensures ∙ c.if-not-known.false

unmarked : (c : Else-top_wrong) → M.top_wrong c.args.kind (leb 128 c.args.first) ≡ false
unmarked c = sym c.top_wrong.ensures ∙ c.if-top_wrong.false

pub returns-in_default : goal.returns-in_default
unfolding head_wrong
returns-in_default c = let a = c.args in simp (subst (TypeIs (a.first % 128)) (no-value c.type_of.result c.in_default.not-Some) c.type_of.ensures a.kind)

pub returns-then-not-known : goal.returns-then-not-known
unfolding head_wrong
returns-then-not-known c = let a = c.args in simp (ap (M.known a.kind) (typed (goal.at.returns-then-not-known c).In-Some) ∙ sym c.known.ensures ∙ c.if-not-known.true)

pub returns-then-top_wrong : goal.returns-then-top_wrong
unfolding head_wrong
returns-then-top_wrong c = simp (known (goal.at.returns-then-top_wrong c).Else-not-known, sym c.top_wrong.ensures ∙ c.if-top_wrong.true)

area : (c : After-area_wrong) → (eqb (c.args.first % 128) 7 && not (leb 1 c.args.area && leb c.args.area 13)) ≡ c.area_wrong.result
area c = let a = c.args in ap (λ (n : ℕ). eqb n 7 && not (leb 1 a.area && leb a.area 13)) (typed (goal.at.After-area_wrong c).In-Some) ∙ sym c.area_wrong.ensures

fits : (c : After-length_fits) → M.length_fits c.args.kind (c.args.first % 128) c.args.area c.args.length ≡ c.length_fits.result
fits c = let a = c.args in ap (λ (n : ℕ). M.length_fits a.kind n a.area a.length) (typed (goal.at.After-length_fits c).In-Some) ∙ sym c.length_fits.ensures

pub length_fits-requires : goal.length_fits-requires
length_fits-requires c = sym c.known.ensures ∙ c.if-not-known.false

pub returns-then-area_wrong : goal.returns-then-area_wrong
unfolding head_wrong
returns-then-area_wrong c =
    simp (
      known (goal.at.returns-then-area_wrong c).Else-not-known,
      unmarked (goal.at.returns-then-area_wrong c).Else-top_wrong,
      area (goal.at.returns-then-area_wrong c).After-area_wrong ∙ c.if-area_wrong.true,
    )

pub returns-then-not-length_fits : goal.returns-then-not-length_fits
unfolding head_wrong
returns-then-not-length_fits c =
    simp (
      known (goal.at.returns-then-not-length_fits c).Else-not-known,
      unmarked (goal.at.returns-then-not-length_fits c).Else-top_wrong,
      area (goal.at.returns-then-not-length_fits c).After-area_wrong ∙ c.if-area_wrong.false,
      fits (goal.at.returns-then-not-length_fits c).After-length_fits ∙ c.if-not-length_fits.true,
    )

pub returns : goal.returns
unfolding head_wrong
returns c =
    simp (
      known (goal.at.returns c).Else-not-known,
      unmarked (goal.at.returns c).Else-top_wrong,
      area (goal.at.returns c).After-area_wrong ∙ c.if-area_wrong.false,
      fits (goal.at.returns c).After-length_fits ∙ c.if-not-length_fits.false,
    )
