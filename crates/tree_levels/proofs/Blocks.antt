-- Lists laid one after the other, f 0, f 1, and so on: each stands between the lengths of those before it. And so a place's nodes read back from what was laid out.
use Prim.Native.Nat.{ℕ, zero, suc, ◌+◌, ◌-◌, ◌≤◌, ◌<◌}
use native.Mathlib.Nat.{zero-add, add-zero, suc-add, add-suc}
use native.Mathlib.Numerals.{add-one}
use native.Mathlib.Omega.{arith}
use mathlib.Core.Path.{◌≡◌, sym, ap, ap₂, ◌∙◌}
use mathlib.Core.List.{List, ◌++◌, append_assoc, append-nil}
use lib.ListN.{length, drop, take-append-drop}
use lib.Seq.{slice, take-append_seam, drop-append_seam}
use Rattle.model.specs.Lists.{count_from, each}
use Rattle.model.specs.Profile.{Layout}
use Rattle.model.specs.Request.{Search}
use Rattle.tree_levels.specs.Levels.{nodes_at, nodes_up_to, start_of, LaidOut}

module _ {A : Type 0} (f : ℕ → List A) where
  pub each_add : (i m k : ℕ) → each f (count_from i (m + k)) ≡ each f (count_from i m) ++ each f (count_from (i + m) k)
  unfolding each count_from
  each_add i zero k = ap₂ (λ (n j : ℕ). each f (count_from j n)) (zero-add k) (sym (add-zero i))
  each_add i (suc m) k =
      ap (λ (n : ℕ). each f (count_from i n)) (suc-add m k)
      ∙ ap (λ (r : List A). f i ++ r) (each_add (suc i) m k)
      ∙ sym (append_assoc (f i) (each f (count_from (suc i) m)) (each f (count_from (suc i + m) k)))
      ∙ ap (λ (j : ℕ). f i ++ each f (count_from (suc i) m) ++ each f (count_from j k)) (suc-add i m ∙ sym (add-suc i m))

  pub each_next : (n : ℕ) → each f (count_from 0 (suc n)) ≡ each f (count_from 0 n) ++ f n
  unfolding each count_from
  each_next n =
      ap (λ (m : ℕ). each f (count_from 0 m)) (sym (add-one n))
      ∙ each_add 0 n 1
      ∙ ap (λ (r : List A). each f (count_from 0 n) ++ r) (append-nil (f (0 + n)) ∙ ap f (zero-add n))

  -- list i of n, whatever stands behind them
  pub each-block
      : (n i : ℕ) (rest : List A) → i < n
      → slice (length (each f (count_from 0 i))) (length (each f (count_from 0 (suc i)))) (each f (count_from 0 n) ++ rest) ≡ f i
  each-block n i rest h =
      let up_to : List A = each f (count_from 0 (suc i)) in
      let behind : List A = each f (count_from (0 + suc i) (n - suc i)) in
      let count : n ≡ suc i + (n - suc i) = omega arith in
      let cut : each f (count_from 0 n) ≡ up_to ++ behind = ap (λ (m : ℕ). each f (count_from 0 m)) count ∙ each_add 0 (suc i) (n - suc i) in
      ap (λ (l : List A). slice (length (each f (count_from 0 i))) (length up_to) (l ++ rest)) cut
      ∙ ap (λ (l : List A). slice (length (each f (count_from 0 i))) (length up_to) l) (append_assoc up_to behind rest)
      ∙ ap (drop (length (each f (count_from 0 i)))) (take-append_seam up_to (behind ++ rest) ∙ each_next i)
      ∙ drop-append_seam (each f (count_from 0 i)) (f i)

-- the nodes at a place, read between its start and the next one's
pub place-nodes
    : (S : Search) (L : Layout) (s addresses starts firsts lasts : List ℕ) (examined : ℕ)
    → LaidOut S L s addresses starts firsts lasts examined
    → (i : ℕ) → i ≤ length S.sequence → slice (start_of S i) (start_of S (suc i)) addresses ≡ nodes_at S i
unfolding nodes_up_to
place-nodes S L s addresses starts firsts lasts examined laid i h =
    let n = suc (length S.sequence) in
    let rest = drop (start_of S n) addresses in
    ap (slice (start_of S i) (start_of S (suc i))) (sym (take-append-drop (start_of S n) addresses) ∙ ap (λ (l : List ℕ). l ++ rest) laid.addresses_are)
    ∙ each-block (nodes_at S) n i rest (omega arith)
