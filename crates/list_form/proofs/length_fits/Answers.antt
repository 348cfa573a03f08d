-- `list_form::length_fits` meets its contract: each arm is the table's row of its type.
use mathlib.Core.Path.{◌≡◌, sym, ap, ◌∙◌}
use mathlib.Core.Bool.{Bool}
use mathlib.Core.Logic.{⊎_elim}
use Prim.Native.Nat.{ℕ, ◌+◌}
use lib.Dec.{eqb}
use Rattle.model.specs.Subobject.{known, length_fits}
use Rattle.list_subobject.specs.declared.types.SubobjectType.{SubobjectType}
use Rattle.list_subobject.specs.declared.types.SubobjectType.TheVariants as T
use Rattle.list_subobject.specs.Types.{number_of}
use Rattle.list_subobject.proofs.LengthLaws.{fits_1, fits_5, fits_6, fits_7, fits_32}
use Rattle.list_form.proofs.Heads.{fits_exrs}
use Rattle.list_form.proofs.length_fits.Goals as goal
use Rattle.list_form.proofs.length_fits.Goals.{Start}

-- what is asked of the type at hand is asked of the table
by : (c : Start) (t : SubobjectType) (fits : Bool) → c.args.t ≡ t → length_fits c.args.kind (number_of t) c.args.area c.args.length ≡ fits → fits ≡ length_fits c.args.kind (number_of c.args.t) c.args.area c.args.length
by c t fits e f = let a = c.args in sym (ap (λ (u : SubobjectType). length_fits a.kind (number_of u) a.area a.length) e ∙ f)

pub returns-in-Prefix : goal.returns-in-Prefix
returns-in-Prefix c =
    let a = c.args in
    let s = (goal.at.returns-in-Prefix c).Start in
    ⊎_elim (λ e. by s T.Prefix _ e (fits_1 a.kind a.area a.length))
    (⊎_elim (λ e. by s T.WideSystem _ e (fits_5 a.kind a.area a.length)) (λ e. by s T.OspfArea _ e (fits_6 a.kind a.area a.length)))
    c.in-Prefix.is

pub returns-in-IsisArea : goal.returns-in-IsisArea
returns-in-IsisArea c =
    let a = c.args in
    by (goal.at.returns-in-IsisArea c).Start T.IsisArea _ c.in-IsisArea.is (fits_7 a.kind a.area a.length ∙ ap (λ (n : ℕ). eqb a.length (4 + n)) (sym c.rounded_up.ensures.0))

pub returns-in-System : goal.returns-in-System
returns-in-System c = let a = c.args in by (goal.at.returns-in-System c).Start T.System _ c.in-System.is (fits_32 a.kind a.area a.length)

-- only an include list knows EXRS
pub returns-in-Exrs : goal.returns-in-Exrs
returns-in-Exrs c =
    let a = c.args in
    by (goal.at.returns-in-Exrs c).Start T.Exrs _ c.in-Exrs.is (fits_exrs a.kind a.area a.length (ap (λ (t : SubobjectType). known a.kind (number_of t)) (sym c.in-Exrs.is) ∙ c.requires))
