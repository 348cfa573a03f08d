-- A list that is put together from subobjects is read as those subobjects: each has right form up to its own end and names the same wherever it stands. Shown once for
-- every type and both list kinds, over a subobject's length; by the laws of things in a row.
use Prim.Native.Nat.{ℕ, ◌+◌, ◌-◌, ◌≤◌, ◌<◌}
use native.Mathlib.Nat.{add-zero, zero-add}
use native.Mathlib.Omega.{arith}
use mathlib.Core.Path.{◌≡◌, refl, sym, ap, ap₂, subst, ◌∙◌}
use mathlib.Core.Bool.{false}
use mathlib.Core.List.{List, [], ◌∷◌, ◌++◌, map}
use lib.ListN.{length, get_or, take, length-append}
use lib.Seq.{get_or-append-add, drop-append-add, drop-append_seam}
use lib.Dec.{leb}
use Rattle.model.specs.Verdict.{Pass}
use Rattle.model.specs.declared.ListKind.{ListKind}
use Rattle.model.specs.Lists.{each}
use Rattle.model.specs.Bytes.{part}
use Rattle.model.specs.Subobject.{Named, Subobject, top_at, length_at, area_length_at, subobject_verdict, named_at, subobject_at, after_subobject, form_verdict, subobjects}
use Rattle.laws.proofs.Numbers.{number_shift}
use Rattle.laws.proofs.Forms.{Alike, later_end, whole_alike}
use Rattle.laws.proofs.InARow.{Stands, stands_inside, stands_get_or, stands_first, Each, Row, offsets, in_a_row, checked_row, places_row}

-- ---- the same wherever it stands

module _ (pre s : List ℕ) where
  first_shift : get_or (pre ++ s) (length pre) 0 ≡ get_or s 0 0
  first_shift = ap (λ (i : ℕ). get_or (pre ++ s) i 0) (sym (add-zero (length pre))) ∙ get_or-append-add pre s 0 0

  part_shift : (i n : ℕ) → part (pre ++ s) (length pre + i) n ≡ part s i n
  part_shift i n = ap (take n) (drop-append-add pre s i)

  bytes_shift : (n : ℕ) → part (pre ++ s) (length pre) n ≡ take n s
  bytes_shift n = ap (take n) (drop-append_seam pre s)

  length_shift : length_at (pre ++ s) (length pre) ≡ length_at s 0
  length_shift = get_or-append-add pre s 1 0

  area_shift : area_length_at (pre ++ s) (length pre) ≡ area_length_at s 0
  area_shift = get_or-append-add pre s 2 0

  pub named_shift : named_at (pre ++ s) (length pre) ≡ named_at s 0
  unfolding named_at
  named_shift =
      rw (first_shift, area_shift, number_shift 4 pre s 2, get_or-append-add pre s 6 0, number_shift 4 pre s 4, part_shift 4 4, part_shift 4 (area_length_at s 0), length_shift, bytes_shift (length_at s 0), number_shift 2 pre s 2)

-- bytes that are of right form up to their own end, whatever follows them, are so wherever they stand
pub stands_alike : (s : List ℕ) (at : ℕ) (x : List ℕ) (h : Stands s at x) → Alike (x ++ h.after) s 0 at (length x)
stands_alike s at x h =
    record {
      in_first = omega (arith, length-append x h.after);
      in_second = stands_inside s at x h;
      same = λ i l. ap (λ (j : ℕ). get_or (x ++ h.after) j 0) (zero-add i) ∙ sym (stands_get_or s at x h i);
    }

pub right-standing
    : (k : ListKind) (s x : List ℕ) (end at : ℕ) (h : Stands s at x) → at + length x ≤ end
    → ((post : List ℕ) → subobject_verdict k (x ++ post) (length x) 0 ≡ Pass)
    → subobject_verdict k s end at ≡ Pass
right-standing k s x end at h inside right =
    later_end k s (at + length x) end at inside
    (subst (λ (n : ℕ). subobject_verdict k s (at + length x) n ≡ Pass) (add-zero at)
    (whole_alike (stands_alike s at x h) k (length x) 0 (omega arith)
    (ap₂ (subobject_verdict k (x ++ h.after)) (zero-add (length x)) (zero-add 0) ∙ right h.after)))

-- ---- one subobject after the other

-- the bytes of a subobject, and what it names
pub record Item : Type 0 where
  pub bytes : List ℕ
  pub names : Named

-- in a list of this kind the bytes are a whole subobject of right form with the top bit clear that names this, whatever follows them
pub record Encoded (k : ListKind) (x : Item) : Type 0 where
  pub right : (post : List ℕ) → subobject_verdict k (x.bytes ++ post) (length x.bytes) 0 ≡ Pass
  pub clear : (post : List ℕ) → top_at (x.bytes ++ post) 0 ≡ false
  pub size : (post : List ℕ) → length_at (x.bytes ++ post) 0 ≡ length x.bytes
  pub long : 4 ≤ length x.bytes
  pub naming : (post : List ℕ) → named_at (x.bytes ++ post) 0 ≡ x.names

abbrev pub AllEncoded : ListKind → List Item → Type 0
AllEncoded k xs = Each (Encoded k) xs

abbrev pub item_bytes : Item → List ℕ
item_bytes x = x.bytes

-- their bytes, one after the other
abbrev pub joined : List Item → List ℕ
joined xs = each item_bytes xs

-- the subobjects, the first at an offset
abbrev pub placed : ℕ → List Item → List Subobject
placed at [] = []
placed at (x ∷ xs) = record { offset = at; top = false; names = x.names } ∷ placed (at + length x.bytes) xs

module _ (k : ListKind) (s : List ℕ) where
  -- an item where its bytes stand: its form passes, the next one starts behind its bytes, and the subobject there is what it says
  module _ (at : ℕ) (x : Item) (h : Stands s at x.bytes) (r : Encoded k x) where
    passing : subobject_verdict k s (length s) at ≡ Pass
    passing = right-standing k s x.bytes (length s) at h (stands_inside s at x.bytes h) r.right

    onward : after_subobject s at ≡ at + length x.bytes
    onward = ap (λ (n : ℕ). at + n) (stands_get_or s at x.bytes h 1 ∙ r.size h.after)

    itself : subobject_at s at ≡ record { offset = at; top = false; names = x.names }
    itself =
        let topped : top_at s at ≡ false = ap (leb 128) (stands_first s at x.bytes h) ∙ r.clear h.after in
        let named = ap₂ named_at h.whole h.offset ∙ named_shift h.before (x.bytes ++ h.after) ∙ r.naming h.after in
        λ i. record { offset = at; top = topped i; names = named i }

  read-placed : (at : ℕ) (xs : List Item) → Row item_bytes s at xs → AllEncoded k xs → map (subobject_at s) (offsets item_bytes at xs) ≡ placed at xs
  read-placed at [] w r = refl
  read-placed at (x ∷ xs) w r =
      ap₂ {C = List Subobject} (λ (y : Subobject) (ys : List Subobject). y ∷ ys)
      (itself at x w.0 r.0)
      (read-placed (at + length x.bytes) xs w.1 r.1)

long : (k : ListKind) (x : Item) → Encoded k x → 0 < length x.bytes
long k x r = omega (arith, r.long)

-- a whole list
module _ (k : ListKind) (xs : List Item) (h : AllEncoded k xs) where
  abbrev s : List ℕ
  s = joined xs

  row : Row item_bytes s 0 xs
  row = in_a_row item_bytes [] xs

  pub form-whole : form_verdict k (joined xs) ≡ Pass
  unfolding form_verdict
  form-whole =
      checked_row item_bytes s (Encoded k) (subobject_verdict k s (length s)) (after_subobject s) (passing k s) (onward k s) (long k) (length s - 0) 0 xs row h

  pub subobjects-whole : subobjects (joined xs) ≡ placed 0 xs
  unfolding subobjects
  subobjects-whole =
      ap (map (subobject_at s))
      (places_row item_bytes s (Encoded k) (subobject_verdict k s (length s)) (after_subobject s) (passing k s) (onward k s) (long k) (length s - 0) 0 xs row h (omega arith))
      ∙ read-placed k s 0 xs row h
