-- The addresses of an ERO as the code writes them: the first with what begins its subobject, each further one with what ends the subobject before and begins its own, then what ends the last.
use mathlib.Core.Path.{◌≡◌, refl, sym, ap, subst, ◌∙◌}
use mathlib.Core.List.{List, [], ◌∷◌, ◌++◌, append-nil}
use Prim.Native.Nat.{ℕ, zero, suc, ◌+◌, ◌-◌, ◌≤◌, ◌<◌}
use native.Mathlib.Omega.{arith}
use lib.ListN.{length, get_or, take, drop}
use lib.Seq.{take_all}
use Rattle.model.specs.Lists.{each}
use Rattle.model.specs.Bytes.{bytes_of}
use Rattle.buffers.specs.Placed.{Put}
use Rattle.buffers.proofs.Places.{put_append}
use Rattle.buffers.proofs.Places.{number_put}
use Rattle.pcep_model.specs.Pcrep.{written_step}
use Rattle.pcep_reply_writer.proofs.Runs.{each_more, none_put, all_put}

-- an address, and before it what ends the subobject before and begins its own
abbrev pub next_step : ℕ → List ℕ
next_step a = 32 ∷ 0 ∷ 1 ∷ 8 ∷ bytes_of 4 a

pub next_length : (a : ℕ) → length (next_step a) ≡ 8
unfolding bytes_of
next_length a = refl

pub first_length : (a : ℕ) → length (1 ∷ 8 ∷ bytes_of 4 a) ≡ 6
unfolding bytes_of
first_length a = refl

-- the addresses before index i but the first
abbrev pub further : ℕ → List ℕ → List ℕ
further i xs = each next_step (take (i - 1) (drop 1 xs))

pub none_further : (xs s : List ℕ) (at : ℕ) → Put at (further 1 xs) s s at
none_further xs s at = none_put next_step (drop 1 xs) s at

further_more : (xs : List ℕ) (i : ℕ) → 1 ≤ i → i < length xs → further (i + 1) xs ≡ further i xs ++ next_step (get_or xs i 0)
further_more [] i o h = absurd (omega arith)
further_more (x ∷ xs) zero o h = absurd (omega arith)
further_more (x ∷ xs) (suc i) o h =
    let up : suc i + 1 - 1 ≡ suc i = omega arith in
    let down : suc i - 1 ≡ i = omega arith in
    ap (λ (k : ℕ). each next_step (take k xs)) up
    ∙ each_more next_step xs i 0 (omega arith)
    ∙ ap (λ (k : ℕ). each next_step (take k xs) ++ next_step (get_or xs i 0)) (sym down)

pub one_further
    : (xs : List ℕ) (start at next i : ℕ) (s a b : List ℕ) → start ≤ length s → 1 ≤ i → i < length xs
    → Put start (further i xs) s a at → Put at (next_step (get_or xs i 0)) a b next
    → Put start (further (i + 1) xs) s b next
one_further xs start at next i s a b h o l p q = subst (λ (bytes : List ℕ). Put start bytes s b next) (sym (further_more xs i o l)) (put_append h p q)

-- what ends a subobject, behind the last address or behind the one before
shift : (xs more : List ℕ) → each next_step xs ++ (32 ∷ 0 ∷ more) ≡ 32 ∷ 0 ∷ (each written_step xs ++ more)
unfolding each bytes_of
shift [] more = refl
shift (x ∷ xs) more = ap (λ (r : List ℕ). next_step x ++ r) (shift xs more)

whole-steps : (xs : List ℕ) (i : ℕ) → 1 ≤ length xs → length xs ≤ i → (1 ∷ 8 ∷ bytes_of 4 (get_or xs 0 0)) ++ further i xs ++ (32 ∷ 0 ∷ []) ≡ each written_step xs
unfolding each bytes_of
whole-steps [] i o h = absurd (omega arith)
whole-steps (x ∷ xs) i o h =
    ap (λ (ys : List ℕ). (1 ∷ 8 ∷ bytes_of 4 x) ++ each next_step ys ++ (32 ∷ 0 ∷ [])) (take_all (i - 1) xs (omega arith))
    ∙ ap (λ (r : List ℕ). (1 ∷ 8 ∷ bytes_of 4 x) ++ r) (shift xs [])
    ∙ ap (λ (r : List ℕ). written_step x ++ r) (append-nil (each written_step xs))

pub steps_none : (xs s : List ℕ) (start : ℕ) → length xs ≡ 0 → Put start (each written_step xs) s s start
steps_none xs s start e = all_put written_step xs start start 0 s s (omega arith) (none_put written_step xs s start)

pub steps-put
    : (xs : List ℕ) (start m at i : ℕ) (s a b c : List ℕ) → start ≤ length s → 1 ≤ length xs → length xs ≤ i
    → Put start (1 ∷ 8 ∷ bytes_of 4 (get_or xs 0 0)) s a m → Put m (further i xs) a b at → c ≡ take at b ++ bytes_of 2 0x2000 ++ drop (at + 2) b
    → Put start (each written_step xs) s c (at + 2)
unfolding bytes_of
steps-put xs start m at i s a b c h o l p q e =
    let whole : Put start ((1 ∷ 8 ∷ bytes_of 4 (get_or xs 0 0)) ++ further i xs ++ bytes_of 2 0x2000) s c (at + 2) =
    put_append h (put_append h p q) (number_put 2 0x2000 at (at + 2) b c refl e) in
    subst (λ (bytes : List ℕ). Put start bytes s c (at + 2)) (whole-steps xs i o l) whole
