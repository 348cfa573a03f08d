-- What a test that code makes of subobjects stands for: a test of X bits and names.
use Rattle.std.specs.Prelude.{◌≡◌, Bool, List, ℕ}
use Rattle.std.specs.Borrow.{Bor}
use Rattle.model.specs.Verdict.{Pass}
use Rattle.model.specs.declared.ListKind.TheVariants.{Exclude}
use Rattle.model.specs.Lists.{any}
use Rattle.model.specs.Subobject.{form_verdict}
use Rattle.model.specs.Subobject as M
use Rattle.list_subobject.specs.declared.item.Item.{Item}
use Rattle.list_subobject.specs.Items.{named_of, BytesInside}

abbrev pub Test : Type 0
Test = Bool → M.Named → Bool

-- what a call of the code may return is the test's outcome, at every subobject of the list
abbrev pub IsTest : (Item → Bool → Type 0) → List ℕ → Test → Type 0
IsTest returns s test = (item : Item) (b : Bool) → BytesInside s item.named → returns item b → b ≡ test item.top (named_of s item.named)

-- some subobject passes it
abbrev pub some_passes : Test → List M.Subobject → Bool
some_passes test xs = any (λ (x : M.Subobject). test x.top x.names) xs

-- what a call of the code may return is whether some subobject passes the test, of any exclude list of right form
abbrev pub IsFound : (Bor (List ℕ) → Bool → Type 0) → Test → Type 0
IsFound returns test = (list : Bor (List ℕ)) (b : Bool) → form_verdict Exclude list.now ≡ Pass → returns list b → b ≡ some_passes test (M.subobjects list.now)
