-- What the walk along a message's objects answers, over `Objects` of `pcep_model`.
use Rattle.std.specs.Prelude.{ℕ, ◌%◌, ◌<◌, ◌≡◌, Bool, not, ◌||◌, List, [], ◌∷◌, get_or, eqb, ltb, Option, None, Result, Ok, Err}
use Rattle.model.specs.Verdict.{Pass}
use Rattle.model.specs.declared.Refusal.{Refusal}
use Rattle.pcep_model.specs.declared.MessageKind.{MessageKind}
use Rattle.pcep_model.specs.Objects.{class_at, type_at, after_object, object_verdict, objects_verdict, first_object}
use Rattle.pcep_laws.specs.Table.{leasts, least_of}
use Rattle.pcep_laws.specs.Firsts.{placed}
use Rattle.pcep_message.specs.declared.objects.Object.{Object}
use Rattle.pcep_message.specs.declared.objects.Objects.{Objects}
use Rattle.pcep_message.specs.Known.{fits, class_if}

-- a length that no object can have, by what is left of the message
abbrev pub length_refused : ℕ → ℕ → Bool
length_refused n left = ltb n 4 || (not (eqb (n % 4) 0) || ltb left n)

-- or one that isn't the object's own
abbrev pub size_refused : ℕ → Option ℕ → ℕ → ℕ → Bool
size_refused c least n left = ltb n 4 || (not (eqb (n % 4) 0) || (ltb left n || not (fits c least n)))

-- the class of the object at an offset, where it is known
abbrev pub class_known : MessageKind → List ℕ → ℕ → Option ℕ
class_known k s at = class_if (placed (least_of k (class_at s at) (type_at s at))) (class_at s at)

-- an object that passes: its class, if it is known, and where the next one starts
pub record ObjectPassed (k : MessageKind) (s : List ℕ) (at : ℕ) (o : Object) : Type 0 where
  pub verdict : object_verdict k s at ≡ Pass
  pub class-is : o.class ≡ class_known k s at
  pub next-is : o.next ≡ after_object s at

abbrev pub ObjectIs : MessageKind → List ℕ → ℕ → Result Object Refusal → Type 0
ObjectIs k s at (Err x) = object_verdict k s at ≡ Err x
ObjectIs k s at (Ok o) = ObjectPassed k s at o

-- the places that were met, by class
abbrev pub places : Objects → List (Option ℕ)
places m =
    None ∷ None ∷ m.rp ∷ m.no_path ∷ m.end_points ∷ m.bandwidth ∷ m.metric ∷ m.ero ∷ None ∷ None ∷ m.iro
    ∷ None ∷ None ∷ None ∷ None ∷ None ∷ None ∷ m.xro ∷ []

abbrev pub first_at : Objects → ℕ → Option ℕ
first_at m c = get_or (places m) c None

-- those noted on the way by class, by their objects' names
abbrev pub objects_met : List (Option ℕ) → Objects
objects_met met =
    record {
      rp = get_or met 2 None;
      no_path = get_or met 3 None;
      end_points = get_or met 4 None;
      bandwidth = get_or met 5 None;
      metric = get_or met 6 None;
      ero = get_or met 7 None;
      iro = get_or met 10 None;
      xro = get_or met 17 None;
    }

-- where the first object of each class that is known in the message starts
abbrev pub FirstsAre : MessageKind → List ℕ → Objects → Type 0
FirstsAre k s m = (c : ℕ) → 0 < get_or (leasts k) c 0 → first_at m c ≡ placed (first_object c s)

-- where the checks of all objects pass
pub record ObjectsPassed (k : MessageKind) (s : List ℕ) (m : Objects) : Type 0 where
  pub verdict : objects_verdict k s 4 ≡ Pass
  pub firsts : FirstsAre k s m

abbrev pub ObjectsAre : MessageKind → List ℕ → Result Objects Refusal → Type 0
ObjectsAre k s (Err x) = objects_verdict k s 4 ≡ Err x
ObjectsAre k s (Ok m) = ObjectsPassed k s m
