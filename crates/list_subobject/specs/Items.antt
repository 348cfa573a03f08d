-- What the code's subobjects stand for, over the definitions of `model`.
use Rattle.std.specs.Prelude.{◌≡◌, true, List, ℕ, ◌+◌, ◌≤◌, length}
use Rattle.model.specs.declared.ListKind.{ListKind}
use Rattle.model.specs.Bytes.{part}
use Rattle.model.specs.Subobject as M
use Rattle.list_subobject.specs.declared.item.Named.{Named}
use Rattle.list_subobject.specs.declared.item.Named.TheVariants.{Prefix, System, Area, Exrs}
use Rattle.list_subobject.specs.declared.item.Item.{Item}

-- what is named; the bytes of an area or an EXRS are those of the list
abbrev pub named_of : List ℕ → Named → M.Named
named_of s (Prefix a n) = M.prefix a.0 n
named_of s (System n) = M.system n
named_of s (Area k start n) = M.area (record { kind = k; bytes = part s start n })
named_of s (Exrs start n) = M.stretch (part s start n)

-- they stand inside the list
abbrev pub BytesInside : List ℕ → Named → Type 0
BytesInside s (Prefix a n) = Unit {0}
BytesInside s (System n) = Unit {0}
BytesInside s (Area k start n) = start + n ≤ length s
BytesInside s (Exrs start n) = start + n ≤ length s

-- what right form, in a list of some kind, says of a subobject's bytes: its length is its type's, and it lies inside the list
pub record Readable (s : List ℕ) (at : ℕ) : Type 0 where
  pub kind : ListKind
  pub long : at + 4 ≤ length s
  pub inside : at + M.length_at s at ≤ length s
  pub fits : M.length_fits kind (M.type_at s at) (M.area_length_at s at) (M.length_at s at) ≡ true

-- what the subobject at an offset names, with its bytes inside the list
pub record NamedIs (s : List ℕ) (at : ℕ) (n : Named) : Type 0 where
  pub named : named_of s n ≡ M.named_at s at
  pub there : BytesInside s n

-- the subobject at an offset, in a list of either kind
pub record ItemAt (s : List ℕ) (at : ℕ) (it : Item) : Type 0 where
  pub offset : it.offset ≡ at
  pub top : it.top ≡ M.top_at s at
  pub named : named_of s it.named ≡ M.named_at s at
  pub next : it.next ≡ M.after_subobject s at
  pub further : at + 4 ≤ it.next
  pub inside : it.next ≤ length s
  pub there : BytesInside s it.named
