-- `nobodys_absent`: an accepted profile has no AS that is nobody's, and a list of right form names none, inside an EXRS either. From the check of each record and
-- of each subobject, whose last test that is.
use Prim.Native.Nat.{ℕ, ◌+◌, ◌-◌, ◌<◌}
use mathlib.Core.Path.{◌≡◌, refl, sym, ap, subst, ◌∙◌}
use mathlib.Core.Bool.{Bool, true, false, true≢false, cond, ◌&&◌, ◌||◌}
use mathlib.Core.List.{List, Memᴰ}
use lib.ListN.{length, get_or}
use lib.Dec.{eqb}
use borrow.Author.Tests.{eqb-false}
use Rattle.model.specs.Verdict.{Pass}
use Rattle.model.specs.declared.ListKind.{ListKind}
use Rattle.model.specs.Lists.{any}
use Rattle.model.specs.Bytes.{number, part}
use Rattle.model.specs.Reserved.{nobodys}
use Rattle.model.specs.Profile.{Layout, domain_count, domain_at, profile_verdict}
use Rattle.model.specs.Along.{places_from}
use Rattle.model.specs.Subobject.{Named, prefix, system, area, stretch, Subobject, include_only, known, prefix_wrong, padding_wrong, type_at, length_at, area_length_at, field_wrong, subobject_verdict, named_at, subobject_at, after_subobject, form_verdict, subobjects}
use Rattle.laws.proofs.Tests.{or_neither}
use Rattle.laws.proofs.Lists.{map_mem}
use Rattle.laws.proofs.Accepted.{accepted}
use Rattle.laws.proofs.Along.{passed}
use Rattle.laws.proofs.Forms.{pass_right, plain_of}
pub use Rattle.laws.proofs.Owned.{Owned}

owned : (asn : ℕ) → nobodys asn ≡ false → Owned asn
unfolding nobodys
owned asn e = let both = or_neither (eqb asn 0) (eqb asn 23456) e in (eqb-false asn 0 both.0, eqb-false asn 23456 both.1)

-- ---- profiles

pub profile_owned : (L : Layout) (s : List ℕ) → profile_verdict L s ≡ Pass → (i : ℕ) → i < domain_count s → Owned (domain_at s i).asn
profile_owned L s e i h = owned (domain_at s i).asn ((accepted L s e).domain i h).as_owned

-- ---- lists

-- each AS that some subobjects name
abbrev pub NamesOwned : List Subobject → Type 0
NamesOwned xs = (x : Subobject) → Memᴰ x xs → (n : ℕ) → x.names ≡ system n → Owned n

-- what a name says of itself: whether it is an AS, and which
is_system : Named → Bool
is_system (prefix a n) = false
is_system (system n) = true
is_system (area a) = false
is_system (stretch bytes) = false

asn_of : Named → ℕ
asn_of (prefix a n) = 0
asn_of (system n) = n
asn_of (area a) = 0
asn_of (stretch bytes) = 0

no_system : (x : Named) (n : ℕ) → is_system x ≡ false → x ≡ system n → ⊥
unfolding is_system
no_system x n e h = true≢false (sym (ap is_system h) ∙ e)

middle_of : (a b c : Bool) → (a || b || c) ≡ false → b ≡ false
middle_of a b c e = (or_neither a b (or_neither (a || b) c e).0).1

-- the subobject at an offset, by its type; the test that stands for it is the last of its form
at_offset : (k : ListKind) (s : List ℕ) (end at : ℕ) → subobject_verdict k s end at ≡ Pass → (n : ℕ) → named_at s at ≡ system n → Owned n
unfolding named_at known field_wrong is_system asn_of
at_offset k s end at e n h =
    let t = type_at s at in
    let r = pass_right (plain_of k s end at e) in
    by_type (eqb t 1) (eqb t 5) (eqb t 6) (eqb t 7) (eqb t 32) (eqb t 33) r.supported r.body_right h
  where
    by_type
        : (one five six seven two exrs : Bool)
        → ((one && true) || ((five && true) || ((six && true) || ((seven && true) || ((two && true) || ((exrs && include_only k) || false)))))) ≡ true
        → ((one && prefix_wrong k s at) || (seven && padding_wrong s at) || (five && nobodys (number 4 s (at + 4))) || (two && nobodys (number 2 s (at + 2)))) ≡ false
        → cond one (prefix (number 4 s (at + 2)) (get_or s (at + 6) 0))
        (cond five (system (number 4 s (at + 4)))
        (cond six (area (record { kind = 1; bytes = part s (at + 4) 4 }))
        (cond seven (area (record { kind = 2; bytes = part s (at + 4) (area_length_at s at) }))
        (cond exrs (stretch (part s at (length_at s at)))
        (system (number 2 s (at + 2)))))))
        ≡ system n
        → Owned n
    by_type true five six seven two exrs u f h = absurd (no_system _ n refl h)
    by_type false true six seven two exrs u f h = subst Owned (ap asn_of h) (owned (number 4 s (at + 4)) (middle_of (seven && padding_wrong s at) (nobodys (number 4 s (at + 4))) (two && nobodys (number 2 s (at + 2))) f))
    by_type false false true seven two exrs u f h = absurd (no_system _ n refl h)
    by_type false false false true two exrs u f h = absurd (no_system _ n refl h)
    by_type false false false false two true u f h = absurd (no_system _ n refl h)
    by_type false false false false true false u f h = subst Owned (ap asn_of h) (owned (number 2 s (at + 2)) f)
    by_type false false false false false false u f h = absurd (true≢false (sym u))

pub list_owned : (k : ListKind) (s : List ℕ) → form_verdict k s ≡ Pass → NamesOwned (subobjects s)
unfolding form_verdict subobjects
list_owned k s e x m n h =
    let place = map_mem (subobject_at s) (places_from (after_subobject s) (length s) 0) m in
    at_offset k s (length s) place.0 (passed (after_subobject s) (length s) (subobject_verdict k s (length s)) (length s - 0) 0 e place.0 place.1) n
    (sym (ap (λ (y : Subobject). y.names) place.2) ∙ h)
