-- The list of least lengths by class says what the table of known objects says: class by class, the last case being every class from 18 on.
use Prim.Native.Nat.{ℕ, zero, suc, ◌≤◌}
use native.Mathlib.Omega.{arith}
use mathlib.Core.Path.{◌≡◌, refl, sym, ap, ◌∙◌}
use mathlib.Core.Bool.{Bool, true, false, not, cond, ◌&&◌, ◌||◌}
use mathlib.Core.List.{List, [], ◌∷◌}
use lib.ListN.{get_or, get_or-eq_default}
use lib.Dec.{eqb, leb, ltb}
use borrow.Author.Tests.{ltb-true, ne_eqb}
use Rattle.model.specs.Lists.{all, any}
use Rattle.laws.proofs.Tests.{and_all, and_both}
use Rattle.pcep_model.specs.declared.MessageKind.{MessageKind}
use Rattle.pcep_model.specs.declared.MessageKind.TheVariants.{Pcreq, Pcrep}
use Rattle.pcep_model.specs.Objects.{ObjectRule, object_rules, in_message, known_object, own_length}
use Rattle.pcep_laws.specs.Table.{leasts, least_of, fits_least}

-- the tests of the table, with the answer to "of type 1" given
abbrev row : MessageKind → ℕ → Bool → ObjectRule → Bool
row k c one r = in_message k r && (eqb c r.class && one)

abbrev length_in : ℕ → MessageKind → ℕ → Bool → ObjectRule → Bool
length_in n k c one r = not (row k c one r) || (leb r.least n && (r.longer || eqb n r.least))

-- no row is one of another type
no_row : (a b : Bool) → a && (b && false) ≡ false
no_row true true = refl
no_row true false = refl
no_row false b = refl

none_known : (k : MessageKind) (c : ℕ) (rules : List ObjectRule) → any (row k c false) rules ≡ false
none_known k c [] = refl
none_known k c (r ∷ rules) = rw (no_row (in_message k r) (eqb c r.class)) (none_known k c rules)

any-length : (n : ℕ) (k : MessageKind) (c : ℕ) (rules : List ObjectRule) → all (length_in n k c false) rules ≡ true
any-length n k c [] = refl
any-length n k c (r ∷ rules) = rw (no_row (in_message k r) (eqb c r.class)) (any-length n k c rules)

-- a class from 18 on has no row
no_class : (a b : Bool) → b ≡ false → a && (b && true) ≡ false
no_class true b e = rw e refl
no_class false b e = refl

module _ (k : MessageKind) (c : ℕ) (far : 18 ≤ c) where
  other : (d : ℕ) → ltb d 18 ≡ true → eqb c d ≡ false
  other d e = let l = ltb-true d 18 e in ne_eqb c d (λ x. omega arith)

  far_rows_known : (rules : List ObjectRule) → all (λ (r : ObjectRule). ltb r.class 18) rules ≡ true → any (row k c true) rules ≡ false
  far_rows_known [] e = refl
  far_rows_known (r ∷ rules) e =
      let both = and_both (ltb r.class 18) (all (λ (x : ObjectRule). ltb x.class 18) rules) e in
      rw (no_class (in_message k r) (eqb c r.class) (other r.class both.0)) (far_rows_known rules both.1)

  far_rows_own : (n : ℕ) (rules : List ObjectRule) → all (λ (r : ObjectRule). ltb r.class 18) rules ≡ true → all (length_in n k c true) rules ≡ true
  far_rows_own n [] e = refl
  far_rows_own n (r ∷ rules) e =
      let both = and_both (ltb r.class 18) (all (λ (x : ObjectRule). ltb x.class 18) rules) e in
      rw (no_class (in_message k r) (eqb c r.class) (other r.class both.0)) (far_rows_own n rules both.1)

pub far_least : (k : MessageKind) (c : ℕ) → 18 ≤ c → get_or (leasts k) c 0 ≡ 0
far_least Pcreq c h = get_or-eq_default (leasts Pcreq) 0 {n = c} h
far_least Pcrep c h = get_or-eq_default (leasts Pcrep) 0 {n = c} h

far_known : (k : MessageKind) (c : ℕ) → 18 ≤ c → any (row k c true) object_rules ≡ not (eqb (get_or (leasts k) c 0) 0)
far_known k c h = far_rows_known k c h object_rules refl ∙ sym (ap (λ (x : ℕ). not (eqb x 0)) (far_least k c h))

far_own : (n : ℕ) (k : MessageKind) (c : ℕ) → 18 ≤ c → all (length_in n k c true) object_rules ≡ fits_least c (get_or (leasts k) c 0) n
far_own n k c h = far_rows_own k c h n object_rules refl ∙ sym (ap (λ (x : ℕ). fits_least c x n) (far_least k c h))

known_one : (k : MessageKind) (c : ℕ) → any (row k c true) object_rules ≡ not (eqb (get_or (leasts k) c 0) 0)
known_one Pcreq zero = refl
known_one Pcreq (suc zero) = refl
known_one Pcreq (suc (suc zero)) = refl
known_one Pcreq (suc (suc (suc zero))) = refl
known_one Pcreq (suc (suc (suc (suc zero)))) = refl
known_one Pcreq (suc (suc (suc (suc (suc zero))))) = refl
known_one Pcreq (suc (suc (suc (suc (suc (suc zero)))))) = refl
known_one Pcreq (suc (suc (suc (suc (suc (suc (suc zero))))))) = refl
known_one Pcreq (suc (suc (suc (suc (suc (suc (suc (suc zero)))))))) = refl
known_one Pcreq (suc (suc (suc (suc (suc (suc (suc (suc (suc zero))))))))) = refl
known_one Pcreq (suc (suc (suc (suc (suc (suc (suc (suc (suc (suc zero)))))))))) = refl
known_one Pcreq (suc (suc (suc (suc (suc (suc (suc (suc (suc (suc (suc zero))))))))))) = refl
known_one Pcreq (suc (suc (suc (suc (suc (suc (suc (suc (suc (suc (suc (suc zero)))))))))))) = refl
known_one Pcreq (suc (suc (suc (suc (suc (suc (suc (suc (suc (suc (suc (suc (suc zero))))))))))))) = refl
known_one Pcreq (suc (suc (suc (suc (suc (suc (suc (suc (suc (suc (suc (suc (suc (suc zero)))))))))))))) = refl
known_one Pcreq (suc (suc (suc (suc (suc (suc (suc (suc (suc (suc (suc (suc (suc (suc (suc zero))))))))))))))) = refl
known_one Pcreq (suc (suc (suc (suc (suc (suc (suc (suc (suc (suc (suc (suc (suc (suc (suc (suc zero)))))))))))))))) = refl
known_one Pcreq (suc (suc (suc (suc (suc (suc (suc (suc (suc (suc (suc (suc (suc (suc (suc (suc (suc zero))))))))))))))))) = refl
known_one Pcreq (suc (suc (suc (suc (suc (suc (suc (suc (suc (suc (suc (suc (suc (suc (suc (suc (suc (suc c)))))))))))))))))) = far_known Pcreq (suc (suc (suc (suc (suc (suc (suc (suc (suc (suc (suc (suc (suc (suc (suc (suc (suc (suc c)))))))))))))))))) (omega arith)
known_one Pcrep zero = refl
known_one Pcrep (suc zero) = refl
known_one Pcrep (suc (suc zero)) = refl
known_one Pcrep (suc (suc (suc zero))) = refl
known_one Pcrep (suc (suc (suc (suc zero)))) = refl
known_one Pcrep (suc (suc (suc (suc (suc zero))))) = refl
known_one Pcrep (suc (suc (suc (suc (suc (suc zero)))))) = refl
known_one Pcrep (suc (suc (suc (suc (suc (suc (suc zero))))))) = refl
known_one Pcrep (suc (suc (suc (suc (suc (suc (suc (suc zero)))))))) = refl
known_one Pcrep (suc (suc (suc (suc (suc (suc (suc (suc (suc zero))))))))) = refl
known_one Pcrep (suc (suc (suc (suc (suc (suc (suc (suc (suc (suc zero)))))))))) = refl
known_one Pcrep (suc (suc (suc (suc (suc (suc (suc (suc (suc (suc (suc zero))))))))))) = refl
known_one Pcrep (suc (suc (suc (suc (suc (suc (suc (suc (suc (suc (suc (suc zero)))))))))))) = refl
known_one Pcrep (suc (suc (suc (suc (suc (suc (suc (suc (suc (suc (suc (suc (suc zero))))))))))))) = refl
known_one Pcrep (suc (suc (suc (suc (suc (suc (suc (suc (suc (suc (suc (suc (suc (suc zero)))))))))))))) = refl
known_one Pcrep (suc (suc (suc (suc (suc (suc (suc (suc (suc (suc (suc (suc (suc (suc (suc zero))))))))))))))) = refl
known_one Pcrep (suc (suc (suc (suc (suc (suc (suc (suc (suc (suc (suc (suc (suc (suc (suc (suc zero)))))))))))))))) = refl
known_one Pcrep (suc (suc (suc (suc (suc (suc (suc (suc (suc (suc (suc (suc (suc (suc (suc (suc (suc zero))))))))))))))))) = refl
known_one Pcrep (suc (suc (suc (suc (suc (suc (suc (suc (suc (suc (suc (suc (suc (suc (suc (suc (suc (suc c)))))))))))))))))) = far_known Pcrep (suc (suc (suc (suc (suc (suc (suc (suc (suc (suc (suc (suc (suc (suc (suc (suc (suc (suc c)))))))))))))))))) (omega arith)

own-one : (n : ℕ) (k : MessageKind) (c : ℕ) → all (length_in n k c true) object_rules ≡ fits_least c (get_or (leasts k) c 0) n
own-one n Pcreq zero = refl
own-one n Pcreq (suc zero) = refl
own-one n Pcreq (suc (suc zero)) = sym (and_all _)
own-one n Pcreq (suc (suc (suc zero))) = refl
own-one n Pcreq (suc (suc (suc (suc zero)))) = sym (and_all _)
own-one n Pcreq (suc (suc (suc (suc (suc zero))))) = sym (and_all _)
own-one n Pcreq (suc (suc (suc (suc (suc (suc zero)))))) = sym (and_all _)
own-one n Pcreq (suc (suc (suc (suc (suc (suc (suc zero))))))) = refl
own-one n Pcreq (suc (suc (suc (suc (suc (suc (suc (suc zero)))))))) = refl
own-one n Pcreq (suc (suc (suc (suc (suc (suc (suc (suc (suc zero))))))))) = refl
own-one n Pcreq (suc (suc (suc (suc (suc (suc (suc (suc (suc (suc zero)))))))))) = sym (and_all _)
own-one n Pcreq (suc (suc (suc (suc (suc (suc (suc (suc (suc (suc (suc zero))))))))))) = refl
own-one n Pcreq (suc (suc (suc (suc (suc (suc (suc (suc (suc (suc (suc (suc zero)))))))))))) = refl
own-one n Pcreq (suc (suc (suc (suc (suc (suc (suc (suc (suc (suc (suc (suc (suc zero))))))))))))) = refl
own-one n Pcreq (suc (suc (suc (suc (suc (suc (suc (suc (suc (suc (suc (suc (suc (suc zero)))))))))))))) = refl
own-one n Pcreq (suc (suc (suc (suc (suc (suc (suc (suc (suc (suc (suc (suc (suc (suc (suc zero))))))))))))))) = refl
own-one n Pcreq (suc (suc (suc (suc (suc (suc (suc (suc (suc (suc (suc (suc (suc (suc (suc (suc zero)))))))))))))))) = refl
own-one n Pcreq (suc (suc (suc (suc (suc (suc (suc (suc (suc (suc (suc (suc (suc (suc (suc (suc (suc zero))))))))))))))))) = sym (and_all _)
own-one n Pcreq (suc (suc (suc (suc (suc (suc (suc (suc (suc (suc (suc (suc (suc (suc (suc (suc (suc (suc c)))))))))))))))))) = far_own n Pcreq (suc (suc (suc (suc (suc (suc (suc (suc (suc (suc (suc (suc (suc (suc (suc (suc (suc (suc c)))))))))))))))))) (omega arith)
own-one n Pcrep zero = refl
own-one n Pcrep (suc zero) = refl
own-one n Pcrep (suc (suc zero)) = sym (and_all _)
own-one n Pcrep (suc (suc (suc zero))) = sym (and_all _)
own-one n Pcrep (suc (suc (suc (suc zero)))) = refl
own-one n Pcrep (suc (suc (suc (suc (suc zero))))) = refl
own-one n Pcrep (suc (suc (suc (suc (suc (suc zero)))))) = sym (and_all _)
own-one n Pcrep (suc (suc (suc (suc (suc (suc (suc zero))))))) = sym (and_all _)
own-one n Pcrep (suc (suc (suc (suc (suc (suc (suc (suc zero)))))))) = refl
own-one n Pcrep (suc (suc (suc (suc (suc (suc (suc (suc (suc zero))))))))) = refl
own-one n Pcrep (suc (suc (suc (suc (suc (suc (suc (suc (suc (suc zero)))))))))) = refl
own-one n Pcrep (suc (suc (suc (suc (suc (suc (suc (suc (suc (suc (suc zero))))))))))) = refl
own-one n Pcrep (suc (suc (suc (suc (suc (suc (suc (suc (suc (suc (suc (suc zero)))))))))))) = refl
own-one n Pcrep (suc (suc (suc (suc (suc (suc (suc (suc (suc (suc (suc (suc (suc zero))))))))))))) = refl
own-one n Pcrep (suc (suc (suc (suc (suc (suc (suc (suc (suc (suc (suc (suc (suc (suc zero)))))))))))))) = refl
own-one n Pcrep (suc (suc (suc (suc (suc (suc (suc (suc (suc (suc (suc (suc (suc (suc (suc zero))))))))))))))) = refl
own-one n Pcrep (suc (suc (suc (suc (suc (suc (suc (suc (suc (suc (suc (suc (suc (suc (suc (suc zero)))))))))))))))) = refl
own-one n Pcrep (suc (suc (suc (suc (suc (suc (suc (suc (suc (suc (suc (suc (suc (suc (suc (suc (suc zero))))))))))))))))) = refl
own-one n Pcrep (suc (suc (suc (suc (suc (suc (suc (suc (suc (suc (suc (suc (suc (suc (suc (suc (suc (suc c)))))))))))))))))) = far_own n Pcrep (suc (suc (suc (suc (suc (suc (suc (suc (suc (suc (suc (suc (suc (suc (suc (suc (suc (suc c)))))))))))))))))) (omega arith)

module _ (k : MessageKind) (c : ℕ) where
  known_by : (one : Bool) → any (row k c one) object_rules ≡ not (eqb (cond one (get_or (leasts k) c 0) 0) 0)
  known_by true = known_one k c
  known_by false = none_known k c object_rules

  own_by : (n : ℕ) (one : Bool) → all (length_in n k c one) object_rules ≡ fits_least c (cond one (get_or (leasts k) c 0) 0) n
  own_by n true = own-one n k c
  own_by n false = any-length n k c object_rules

  -- known exactly where the least length isn't 0
  pub known_is : (t : ℕ) → known_object k c t ≡ not (eqb (least_of k c t) 0)
  unfolding known_object
  known_is t = known_by (eqb t 1)

  -- the lengths that it can have
  pub own_is : (t n : ℕ) → own_length k c t n ≡ fits_least c (least_of k c t) n
  unfolding own_length
  own_is t n = own_by n (eqb t 1)
