-- `list_include::read_item` meets its contract: each arm is a case of `read_one`, and the reading goes on past the subobject.
use Rattle.std.specs.Prelude.{Ok}
use mathlib.Core.Path.{refl, sym, ap, subst, ◌∙◌}
use Rattle.model.specs.Sequence as M
use Rattle.model.specs.Request.{reading_input}
use Rattle.laws.specs.Exrs.{waits_as}
use Rattle.list_subobject.specs.declared.item.Named.{Named}
use Rattle.list_subobject.specs.Items.{named_of, BytesInside}
use Rattle.list_include.specs.Reading.{state_of, stepped, ReadStepIs, name_found}
use Rattle.list_include.proofs.States.{named-found, stepped-on}
use Rattle.list_include.proofs.Steps.{past-here, step_past}
use Rattle.list_include.proofs.read_item.Goals as goal

pub of_area-found-requires : goal.of_area-found-requires
of_area-found-requires c =
    let a = c.args in
    (c.requires.sound_state.2, c.requires.sound_state.3, subst (BytesInside a.list.now) c.in-Area.is c.requires.item_here.0.there.there)

pub returns-in-Prefix : goal.returns-in-Prefix
unfolding M.read_one
returns-in-Prefix c =
    let a = c.args in
    let s = a.list.now in
    let it = a.item in
    let at = it.offset in
    let is = c.in-Prefix.is in
    subst (λ (x : Named). ReadStepIs s it.next (stepped c.wait_for.result c.wait_for.new.st) (M.read_one (reading_input a.profile.now) (state_of s at a.st.now) (record { offset = at; top = it.top; names = named_of s x }) a.follows)) (sym is)
    (c.wait_for.ensures.means s it.next c.requires.item_here.1 (past-here s it c.requires.item_here.0 a.st.now c.requires.item_here.1 _ (ap (λ (x : Named). waits_as at (named_of s x)) is)))

pub returns-in-System : goal.returns-in-System
unfolding M.read_one
returns-in-System c =
    let a = c.args in
    let s = a.list.now in
    let it = a.item in
    let at = it.offset in
    let is = c.in-System.is in
    subst (λ (x : Named). ReadStepIs s it.next (stepped c.read_system.result c.read_system.new.st) (M.read_one (reading_input a.profile.now) (state_of s at a.st.now) (record { offset = at; top = it.top; names = named_of s x }) a.follows)) (sym is)
    (step_past s it c.requires.item_here.0 _ _ (ap (λ (x : Named). waits_as at (named_of s x)) is) (c.read_system.ensures s c.requires.item_here.1))

pub returns-in-Area : goal.returns-in-Area
unfolding M.read_one
returns-in-Area c =
    let a = c.args in
    let s = a.list.now in
    let it = a.item in
    let at = it.offset in
    let is = c.in-Area.is in
    subst (λ (x : Named). ReadStepIs s it.next (stepped c.name_found.result c.name_found.new.st) (M.read_one (reading_input a.profile.now) (state_of s at a.st.now) (record { offset = at; top = it.top; names = named_of s x }) a.follows)) (sym is)
    (step_past s it c.requires.item_here.0 _ _ (ap (λ (x : Named). waits_as at (named_of s x)) is)
    (subst (ReadStepIs s at (stepped c.name_found.result c.name_found.new.st))
    (ap (name_found at (state_of s at a.st.now)) c.of_area-found.ensures ∙ sym (named-found at (state_of s at a.st.now) _))
    (c.name_found.ensures.means s c.requires.item_here.1)))

pub returns-in-Exrs : goal.returns-in-Exrs
unfolding M.read_one
returns-in-Exrs c =
    let a = c.args in
    let s = a.list.now in
    let it = a.item in
    let at = it.offset in
    let is = c.in-Exrs.is in
    subst (λ (x : Named). ReadStepIs s it.next (Ok c.wait_exrs.new.st) (M.read_one (reading_input a.profile.now) (state_of s at a.st.now) (record { offset = at; top = it.top; names = named_of s x }) a.follows)) (sym is)
    (stepped-on s it.next _ _ _ (c.wait_exrs.ensures s _ it.next c.requires.item_here.1 (past-here s it c.requires.item_here.0 a.st.now c.requires.item_here.1 _ (ap (λ (x : Named). waits_as at (named_of s x)) is))) refl)
