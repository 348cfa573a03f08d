-- Of ERO and NO-PATH the one met first: the place that the code goes by says which counts, where its body stands, and that the other one is there.
use Rattle.std.specs.Prelude.{None, Some}
use Rattle.std.specs.Option.{is_some}
use Prim.Native.Nat.{ℕ, ◌+◌, ◌-◌}
use native.Mathlib.Omega.{arith}
use mathlib.Core.Path.{◌≡◌, refl, sym, ap, subst, ◌∙◌}
use mathlib.Core.Bool.{Bool, true, false, not, cond, ◌&&◌, ◌||◌}
use mathlib.Core.List.{List, []}
use lib.ListN.{get_or}
use lib.Dec.{eqb, leb, ltb}
use borrow.Author.Tests.{eqb-true, eqb-false, eq-eqb, not-true, ltb-true, ltb-false, lt-leb, le-leb}
use Rattle.model.specs.Verdict.{Pass}
use Rattle.model.specs.Bytes.{part}
use Rattle.laws.proofs.Tests.{and_both, and-false, or_neither, clash}
use Rattle.pcep_model.specs.declared.Extent.{Extent}
use Rattle.pcep_model.specs.declared.MessageKind.TheVariants.{Pcrep}
use Rattle.pcep_model.specs.Objects.{ERO, NO-PATH, size_at, first_object, objects_verdict, message_verdict}
use Rattle.pcep_model.specs.Pcreq.{extent_of, list_in}
use Rattle.pcep_model.specs.Pcrep.{met_first, route_given, route_in, nature_of, c_flag_of}
use Rattle.pcep_laws.specs.Left.{Stands}
use Rattle.pcep_laws.proofs.Found.{object_stands}
use Rattle.pcep_laws.proofs.Message.{has_route}
use Rattle.pcep_laws.specs.Firsts.{placed}
use Rattle.pcep_message.specs.Extents.{extent_in}
use Rattle.pcep_message.proofs.Placed.{extent_placed}
use Rattle.pcep_reply_reader.specs.CheckedPcrep.{route_at, nature_by, c_by}

-- ---- over any two places

module _ (e n : ℕ) where
  abbrev counts : Bool
  counts = met_first e n

  -- the place of the ERO that counts, 0 where none does
  abbrev pub place : ℕ
  place = cond counts e 0

  there_by : (b : Bool) → counts ≡ b → not (eqb (cond b e 0) 0) ≡ b
  there_by true c = (and_both (not (eqb e 0)) (eqb n 0 || ltb e n) c).0
  there_by false c = refl

  -- there is such a place exactly where the ERO counts
  pub there : not (eqb (place) 0) ≡ counts
  there = there_by counts refl

  other_by : (b : Bool) → counts ≡ b → cond b e 0 ≡ 0 → (eqb e 0 && eqb n 0) ≡ false → n ≡ 0 → ⊥
  other_by true c z some x = eqb-false e 0 (not-true (eqb e 0) (and_both (not (eqb e 0)) (eqb n 0 || ltb e n) c).0) z
  other_by false c z some x = by (eqb e 0) refl
    where
      none : eqb n 0 ≡ true
      none = eq-eqb n 0 x

      by : (b : Bool) → eqb e 0 ≡ b → ⊥
      by true t = clash none (and-false (eqb e 0) (eqb n 0) some t)
      by false f = clash none (or_neither (eqb n 0) (ltb e n) (and-false (not (eqb e 0)) (eqb n 0 || ltb e n) c (ap not f))).0

  -- where it doesn't, and one of the two is there, the NO-PATH is
  pub other : place ≡ 0 → (eqb e 0 && eqb n 0) ≡ false → n ≡ 0 → ⊥
  other z some x = other_by counts refl z some x

  itself_by : (b : Bool) → counts ≡ b → (cond b e 0 ≡ 0 → ⊥) → cond b e 0 ≡ e
  itself_by true c some = refl
  itself_by false c some = absurd (some refl)

  pub itself : (place ≡ 0 → ⊥) → place ≡ e
  itself some = itself_by counts refl some

  placed_by : (a b : Bool) → eqb e 0 ≡ a → eqb n 0 ≡ b → route_at (cond a None (Some e)) (cond b None (Some n)) ≡ placed (cond (not a && (b || ltb e n)) e 0)
  placed_by true b x y = refl
  placed_by false true x y = sym (rw x refl)
  placed_by false false x y = before (ltb e n) refl
    where
      before : (b : Bool) → ltb e n ≡ b → cond (leb n e) None (Some e) ≡ placed (cond b e 0)
      before true l = rw (lt-leb n e (ltb-true e n l)) (sym (rw x refl))
      before false l = rw (le-leb n e (ltb-false e n l)) refl

  -- as the code has it
  pub route_placed : route_at (placed e) (placed n) ≡ placed place
  route_placed = placed_by (eqb e 0) (eqb n 0) refl refl

-- ---- in a message

module _ (s : List ℕ) where
  abbrev pub route : ℕ
  route = place (first_object ERO s) (first_object NO-PATH s)

  given : route_given s ≡ not (eqb route 0)
  given = sym (there (first_object ERO s) (first_object NO-PATH s))

  module _ (right : objects_verdict Pcrep s 4 ≡ Pass) where
    pub route_stands : (route ≡ 0 → ⊥) → Stands s route 4
    route_stands some =
        let e = itself (first_object ERO s) (first_object NO-PATH s) some in
        subst (λ (at : ℕ). Stands s at 4) (sym e) (object_stands Pcrep s right ERO (omega arith) (λ z. some (e ∙ z)))

    pub no_path_there : message_verdict Pcrep s ≡ Pass → route ≡ 0 → first_object NO-PATH s ≡ 0 → ⊥
    no_path_there pass z = other (first_object ERO s) (first_object NO-PATH s) z (has_route s pass)

    pub no_path_stands : message_verdict Pcrep s ≡ Pass → route ≡ 0 → Stands s (first_object NO-PATH s) 8
    no_path_stands pass z = object_stands Pcrep s right NO-PATH (omega arith) (no_path_there pass z)

  -- the body that the place gives is the definition's
  body_by : (b : Bool) → route_given s ≡ b → list_in s (extent_of s (cond b (first_object ERO s) 0) 4) ≡ cond b (part s (first_object ERO s + 4) (size_at s (first_object ERO s) - 4)) []
  body_by true g = rw (not-true (eqb (first_object ERO s) 0) (and_both (not (eqb (first_object ERO s) 0)) (eqb (first_object NO-PATH s) 0 || ltb (first_object ERO s) (first_object NO-PATH s)) g).0) refl
  body_by false g = refl

  pub body_is : (x : Extent) → x ≡ extent_in s (placed route) 4 → list_in s x ≡ route_in s
  body_is x e = ap (list_in s) (e ∙ extent_placed s route 4) ∙ body_by (route_given s) refl

  -- the fields that it decides
  some_by : (b : Bool) (n : ℕ) → is_some (cond b None (Some n)) ≡ not b
  some_by true n = refl
  some_by false n = refl

  pub found-is : is_some (placed route) ≡ route_given s
  found-is = some_by (eqb route 0) route ∙ sym given

  module _ (right : route ≡ 0 → first_object NO-PATH s ≡ 0 → ⊥) where
    abbrev np : ℕ
    np = first_object NO-PATH s

    nature_of_by : (a b : Bool) → eqb route 0 ≡ a → eqb np 0 ≡ b → nature_by s (cond a None (Some route)) (cond b None (Some np)) ≡ cond (not a) 0 (get_or s (np + 4) 0)
    nature_of_by true true x y = absurd (right (eqb-true route 0 x) (eqb-true np 0 y))
    nature_of_by true false x y = refl
    nature_of_by false b x y = refl

    pub nature-is : nature_by s (placed route) (placed np) ≡ nature_of s
    nature-is = nature_of_by (eqb route 0) (eqb np 0) refl refl ∙ ap (λ (b : Bool). cond b 0 (get_or s (np + 4) 0)) (sym given)

    c_of_by : (a b : Bool) → eqb route 0 ≡ a → eqb np 0 ≡ b → c_by s (cond a None (Some route)) (cond b None (Some np)) ≡ (not (not a) && leb 128 (get_or s (np + 5) 0))
    c_of_by true true x y = absurd (right (eqb-true route 0 x) (eqb-true np 0 y))
    c_of_by true false x y = refl
    c_of_by false b x y = refl

    pub c-is : c_by s (placed route) (placed np) ≡ c_flag_of s
    c-is = c_of_by (eqb route 0) (eqb np 0) refl refl ∙ ap (λ (b : Bool). not b && leb 128 (get_or s (np + 5) 0)) (sym given)
