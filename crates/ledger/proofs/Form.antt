-- What the ledger's own form gives, whatever makes the calls and whatever it answers: nothing of this is claimed of a receiver. Assumes nothing.
use mathlib.Core.Path.{◌≡◌, refl, ap}
use mathlib.Core.Bool.{Bool, true, false}
use mathlib.Core.List.{List, [], ◌∷◌, ◌++◌, map}
use Prim.Native.Nat.{ℕ, zero, suc, ◌+◌, ◌<◌}
use native.Mathlib.Omega.{arith}
use lib.ListN.{length, get_or, take, drop, replicate, length-append, length-map, length-replicate}
use Rattle.std.specs.Prelude.{Result, Ok, Err}
use Rattle.numbers.specs.Circular.{distance, sum}
use Rattle.head.specs.declared.refusal.Refusal.{Refusal}
use Rattle.receiver.specs.declared.data.DataAnswer.{DataAnswer}
use Rattle.receiver.specs.declared.data.DataAnswer.TheVariants as datas
use Rattle.window_pop.specs.declared.pop.PopAnswer.{PopAnswer}
use Rattle.window_pop.specs.declared.pop.PopAnswer.TheVariants as messages
use Rattle.step.specs.Step.{State, Lent, Ended}
use Rattle.step.specs.declared.Call.{Call}
use Rattle.step.specs.declared.Answer.{Answer}
use Rattle.step.specs.declared.Answer.TheVariants as answers
use Rattle.views.specs.Lists.{changed_in}
use Rattle.ledger.specs.Seen.{number_in, last_in, data_places, places_in}
use Rattle.ledger.specs.Ledger.{Place, lost, received, Fate, released, discarded, bytes_of, Ledger, front_of, next_of, marked, gave_up, end_in, leave, enter_data, enter_pop, enter_drop, enter}
use Rattle.ledger.specs.Runs.{Event, Book, answered, book_after, entered}

-- each place leaves once: the fate of a place that is gone never changes
abbrev Stays : Ledger → Ledger → Type 0
Stays l l₁ = (p : ℕ) → p < front_of l → get_or l₁.gone p discarded ≡ get_or l.gone p discarded

kept-fate : (fs gs : List Fate) (p : ℕ) → p < length fs → get_or (fs ++ gs) p discarded ≡ get_or fs p discarded
kept-fate [] gs p h = absurd (omega arith)
kept-fate (f ∷ fs) gs zero h = refl
kept-fate (f ∷ fs) gs (suc p) h = kept-fate fs gs p (omega arith)

pop-settled : (l : Ledger) (a : Result PopAnswer Refusal) → Stays l (enter_pop l a)
pop-settled l (Ok messages.Nothing) p h = refl
pop-settled l (Ok (messages.Message time bytes packets)) p h = kept-fate l.gone (map (λ x. released (bytes_of x)) (take packets l.held)) p h
pop-settled l (Ok (messages.Late first end delay)) p h = kept-fate l.gone (map (λ x. discarded) (take (distance 31 end first) l.held)) p h
pop-settled l (Err e) p h = refl

data-settled : (l : Ledger) (number : ℕ) (bytes : List ℕ) (a : Result DataAnswer Refusal) → Stays l (enter_data l number bytes a)
data-settled l number bytes (Ok (datas.Got lrsn recovered)) p h = refl
data-settled l number bytes (Ok (datas.Light lrsn recovered)) p h = refl
data-settled l number bytes (Ok (datas.Loss x y)) p h = refl
data-settled l number bytes (Err e) p h = refl

drop-settled : (l : Ledger) (first last : ℕ) (a : Result ℕ Refusal) → Stays l (enter_drop l first last a)
drop-settled l first last (Ok n) p h = refl
drop-settled l first last (Err e) p h = refl

pub settled : (l : Ledger) (c : Call) (bytes : List ℕ) (a : Answer) → Stays l (enter l c bytes a)
settled l c bytes (answers.Data a) p h = data-settled l (number_in c) bytes a p h
settled l c bytes (answers.Pop a) p h = pop-settled l a p h
settled l c bytes (answers.Report a) p h = refl
settled l c bytes (answers.FullAck a) p h = refl
settled l c bytes (answers.Ack2 a) p h = refl
settled l c bytes (answers.Drop a) p h = drop-settled l (number_in c) (last_in c) a p h
settled l c bytes (answers.Clock a) p h = refl
settled l c bytes (answers.Clear a) p h = refl

-- released, discarded and held are all places ever entered
length_marked : (first p number : ℕ) (bytes : List ℕ) (xs : List Place) → length (marked first p number bytes xs) ≡ length xs
unfolding marked
length_marked first p number bytes [] = refl
length_marked first p number bytes (x ∷ xs) = ap suc (length_marked first (suc p) number bytes xs)

length-changed : {A : Type 0} (f : A → A) (from to i : ℕ) (xs : List A) → length (changed_in f from to i xs) ≡ length xs
unfolding changed_in
length-changed f from to i [] = refl
length-changed f from to i (x ∷ xs) = ap suc (length-changed f from to (suc i) xs)

in_two : {A : Type 0} (n : ℕ) (xs : List A) → length (take n xs) + length (drop n xs) ≡ length xs
in_two zero xs = omega arith
in_two (suc n) [] = omega arith
in_two (suc n) (x ∷ xs) = let r = in_two n xs in omega arith

took-all : (l : Ledger) (number : ℕ) (bytes : List ℕ) (recovered : Bool) (lrsn : ℕ)
    → next_of (enter_data l number bytes (Ok (datas.Got lrsn recovered))) ≡ next_of l + data_places (Ok (datas.Got lrsn recovered))
took-all l number bytes true lrsn = let n = length_marked l.first (front_of l) number bytes l.held in omega arith
took-all l number bytes false lrsn = let n = length-append l.held (received bytes ∷ []) in omega arith

data-all : (l : Ledger) (number : ℕ) (bytes : List ℕ) (a : Result DataAnswer Refusal) → next_of (enter_data l number bytes a) ≡ next_of l + data_places a
data-all l number bytes (Ok (datas.Got lrsn true)) = took-all l number bytes true lrsn
data-all l number bytes (Ok (datas.Got lrsn false)) = took-all l number bytes false lrsn
data-all l number bytes (Ok (datas.Light lrsn true)) = took-all l number bytes true lrsn
data-all l number bytes (Ok (datas.Light lrsn false)) = took-all l number bytes false lrsn
data-all l number bytes (Ok (datas.Loss a b)) =
    let n = length-append (l.held ++ replicate (distance 31 b a + 1) lost) (received bytes ∷ []) in
    let m = length-append l.held (replicate (distance 31 b a + 1) lost) in
    let k = length-replicate (distance 31 b a + 1) lost in
    omega arith
data-all l number bytes (Err e) = omega arith

leave-all : (l : Ledger) (n : ℕ) (f : Place → Fate) → next_of (leave l n f) ≡ next_of l + 0
leave-all l n f =
    let m = length-append l.gone (map f (take n l.held)) in
    let k = length-map (take n l.held) f in
    let r = in_two n l.held in
    omega arith

pop-all : (l : Ledger) (a : Result PopAnswer Refusal) → next_of (enter_pop l a) ≡ next_of l + 0
pop-all l (Ok messages.Nothing) = omega arith
pop-all l (Ok (messages.Message time bytes packets)) = leave-all l packets (λ x. released (bytes_of x))
pop-all l (Ok (messages.Late first end delay)) = leave-all l (distance 31 end first) (λ x. discarded)
pop-all l (Err e) = omega arith

drop_all : (l : Ledger) (first last : ℕ) (a : Result ℕ Refusal) → next_of (enter_drop l first last a) ≡ next_of l + 0
drop_all l first last (Ok n) = let m = length-changed gave_up (end_in l first) (end_in l (sum 31 last 1)) 0 l.held in omega arith
drop_all l first last (Err e) = omega arith

enter-all : (l : Ledger) (c : Call) (bytes : List ℕ) (a : Answer) → next_of (enter l c bytes a) ≡ next_of l + places_in a
enter-all l c bytes (answers.Data a) = data-all l (number_in c) bytes a
enter-all l c bytes (answers.Pop a) = pop-all l a
enter-all l c bytes (answers.Report a) = omega arith
enter-all l c bytes (answers.FullAck a) = omega arith
enter-all l c bytes (answers.Ack2 a) = omega arith
enter-all l c bytes (answers.Drop a) = drop_all l (number_in c) (last_in c) a
enter-all l c bytes (answers.Clock a) = omega arith
enter-all l c bytes (answers.Clear a) = omega arith

pub all-entered : (step : State → Lent → Call → Ended) (b : Book) (past : List Event) → next_of (book_after step b past).ledger ≡ next_of b.ledger + entered step b past
unfolding book_after entered
all-entered step b [] = omega arith
all-entered step b (e ∷ past) =
    let a = (answered step (book_after step b past) e).answer in
    let n = enter-all (book_after step b past).ledger e.call e.lent.payload a in
    let r = all-entered step b past in
    omega arith
