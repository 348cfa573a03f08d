-- The checks of a subobject's form as the code makes them, over the definitions of `model`.
use Rattle.std.specs.Prelude.{not, cond, ◌&&◌, ℕ, ◌%◌, eqb, leb, Option, Some, None, ◌≡◌, ◌<◌, List}
use Rattle.model.specs.declared.ListKind.{ListKind}
use Rattle.model.specs.declared.Reason.{Reason}
use Rattle.model.specs.Verdict.{Verdict}
use Rattle.model.specs.Subobject as M

-- what is wrong with a subobject's first three bytes: the type, the top bit, the area's length, the length, in this order
unfoldable pub head_wrong : ListKind → ℕ → ℕ → ℕ → Option Reason
head_wrong k first n area =
    let t = first % 128 in
    cond (not (M.known k t)) (Some Reason.UnknownType)
    (cond (M.top_wrong k (leb 128 first)) (Some Reason.LooseBit)
    (cond (eqb t 7 && not (leb 1 area && leb area 13)) (Some Reason.WrongField)
    (cond (M.length_fits k t area n) None (Some Reason.SubobjectLength))))

-- what a call of the code may return at an offset is whether the form of the subobject there is right
abbrev pub IsFormCheck : (ℕ → Verdict → Type 0) → ListKind → List ℕ → ℕ → Type 0
IsFormCheck returns kind s end = (at : ℕ) (verdict : Verdict) → at < end → returns at verdict → verdict ≡ M.subobject_verdict kind s end at
