-- `list_form::form_at` meets its contract: the subobject itself, and then in an include list what it carries.
use Rattle.std.specs.Prelude.{Err}
use borrow.Author.Rules.{rules}
use mathlib.Core.Path.{◌≡◌, sym, ap, ◌∙◌}
use mathlib.Core.List.{List}
use Prim.Native.Nat.{ℕ}
use lib.Dec.{eqb}
use lib.ListN.{length}
use Rattle.model.specs.Verdict.{Pass}
use Rattle.model.specs.declared.Refusal.{Refusal}
use Rattle.model.specs.declared.ListKind.{ListKind}
use Rattle.model.specs.declared.ListKind.TheVariants.{Include, Exclude}
use Rattle.model.specs.Subobject.{type_at, plain_verdict, carried_if, subobject_verdict}
use Rattle.laws.proofs.Turns.{passed_first, refused_first}
use Rattle.list_form.proofs.form_at.Goals as goal

module _ (s : List ℕ) (end at : ℕ) where
  plain-refused : (k : ListKind) (r : Refusal) → plain_verdict k s end at ≡ Err r → subobject_verdict k s end at ≡ Err r
  unfolding subobject_verdict
  plain-refused Include r e = refused_first (plain_verdict Include s end at) (carried_if (eqb (type_at s at) 33) s at) r e
  plain-refused Exclude r e = e

  plain-alone : plain_verdict Exclude s end at ≡ Pass → subobject_verdict Exclude s end at ≡ Pass
  unfolding subobject_verdict
  plain-alone e = e

  then-carried : plain_verdict Include s end at ≡ Pass → subobject_verdict Include s end at ≡ carried_if (eqb (type_at s at) 33) s at
  unfolding subobject_verdict
  then-carried e = passed_first (plain_verdict Include s end at) (carried_if (eqb (type_at s at) 33) s at) e

pub returns-in_err-plain_at : goal.returns-in_err-plain_at
returns-in_err-plain_at c =
    let a = c.args in
    let e = plain-refused a.list.now (length a.list.now) a.at a.kind _ (sym c.plain_at.ensures ∙ c.in_err-plain_at.was) in
    search rules

pub returns-in-Exclude : goal.returns-in-Exclude
returns-in-Exclude c =
    let a = c.args in
    let s = a.list.now in
    sym
    (ap (λ (k : ListKind). subobject_verdict k s (length s) a.at) c.in-Exclude.is
    ∙ plain-alone s (length s) a.at
    (ap (λ (k : ListKind). plain_verdict k s (length s) a.at) (sym c.in-Exclude.is) ∙ sym c.plain_at.ensures ∙ c.in_ok-plain_at.was))

pub returns-in-Include : goal.returns-in-Include
returns-in-Include c =
    let a = c.args in
    let s = a.list.now in
    c.carried_at.ensures
    ∙ sym
    (ap (λ (k : ListKind). subobject_verdict k s (length s) a.at) c.in-Include.is
    ∙ then-carried s (length s) a.at
    (ap (λ (k : ListKind). plain_verdict k s (length s) a.at) (sym c.in-Include.is) ∙ sym c.plain_at.ensures ∙ c.in_ok-plain_at.was))
