-- The ledger by example, computed from its definitions: 01's worked example, a late drop over the wrap, a drop request. Assumes nothing.
use mathlib.Core.Path.{◌≡◌, refl}
use mathlib.Core.Bool.{true, false}
use mathlib.Core.List.{List, [], ◌∷◌}
use Prim.Native.Nat.{ℕ}
use lib.IntN.{pos}
use Rattle.std.specs.Prelude.{Ok, Err}
use Rattle.numbers.specs.Circular.{distance, equal, after, before, saturating, sum}
use Rattle.receiver.specs.declared.data.DataAnswer.TheVariants as datas
use Rattle.head.specs.declared.refusal.Refusal.TheVariants.{DiscardedDuplicate}
use Rattle.window_pop.specs.declared.pop.PopAnswer.TheVariants as messages
use Rattle.step.specs.declared.Call.{Call}
use Rattle.step.specs.declared.Call.TheVariants as calls
use Rattle.step.specs.declared.Answer.TheVariants as answers
use Rattle.views.specs.Lists.{changed_in}
use Rattle.ledger.specs.Ledger.{Place, lost, received, given_up, released, discarded, Ledger, opened, number_of, front_of, next_of, marked, enter}

abbrev sent : ℕ → Call
sent number = calls.Data (pos 0) number 0 3 0

-- the packets of 01's worked example with the answers that 01 gives, each packet with a byte of its own
abbrev filled : Ledger
filled =
    let a = enter (opened 2147483646) (sent 2147483646) (1 ∷ []) (answers.Data (Ok (datas.Got 2147483647 false))) in
    let b = enter a (sent 0) (2 ∷ []) (answers.Data (Ok (datas.Loss 2147483647 2147483647))) in
    let c = enter b (sent 2147483647) (3 ∷ []) (answers.Data (Ok (datas.Got 1 true))) in
    enter c (sent 0) (4 ∷ []) (answers.Data (Err DiscardedDuplicate))

-- then the pop of its first message
abbrev worked : Ledger
worked = enter filled (calls.Pop (pos 4000)) [] (answers.Pop (Ok (messages.Message (pos 0) 1 1)))

pub worked-example : worked ≡ record { first = 2147483646; gone = released (1 ∷ []) ∷ []; held = received (3 ∷ []) ∷ received (2 ∷ []) ∷ [] }
unfolding sum distance marked
worked-example = refl

-- 01's end line has lrsn 1, seqno0 2147483647 and 2 held
pub worked-numbers : (number_of worked (front_of worked) ≡ 2147483647) × (number_of worked (next_of worked) ≡ 1)
unfolding sum distance marked
worked-numbers = (refl, refl)

-- a late drop of the range from 2147483647 to before 1
pub late-example : enter (record { first = 2147483647; gone = []; held = lost ∷ received (5 ∷ []) ∷ lost ∷ [] }) (calls.Pop (pos 0)) [] (answers.Pop (Ok (messages.Late 2147483647 1 (pos 0))))
    ≡ record { first = 2147483647; gone = discarded ∷ discarded ∷ []; held = lost ∷ [] }
unfolding distance
late-example = refl

-- three places are held over the wrap, 2147483647, 0 and 1, of which the one in the middle is received; a drop request from first to last leaves these
abbrev over : List Place → Ledger
over ps = record { first = 2147483647; gone = []; held = ps }

abbrev dropped : ℕ → ℕ → Ledger
dropped first last = enter (over (lost ∷ received (5 ∷ []) ∷ lost ∷ [])) (calls.Drop first last) [] (answers.Drop (Ok 0))

abbrev front : Ledger
front = over (given_up ∷ received (5 ∷ []) ∷ lost ∷ [])

abbrev rear : Ledger
rear = over (lost ∷ received (5 ∷ []) ∷ given_up ∷ [])

abbrev both : Ledger
both = over (given_up ∷ received (5 ∷ []) ∷ given_up ∷ [])

abbrev neither : Ledger
neither = over (lost ∷ received (5 ∷ []) ∷ lost ∷ [])

-- what is lost in the range is given up, and nothing after it
pub drop-example : dropped 2147483647 0 ≡ front
unfolding sum distance saturating before equal after changed_in
drop-example = refl

-- at the front: a request that ends just before it, and one that ends at it
pub drop-front : (dropped 2147483640 2147483646 ≡ neither) × (dropped 2147483640 2147483647 ≡ front)
unfolding sum distance saturating before equal after changed_in
drop-front = (refl, refl)

-- at the end: a request that begins at the last held place, one that begins just after it, one that ends far after it, and one that ends before it begins
pub drop-end : (dropped 1 1 ≡ rear) × (dropped 2 9 ≡ neither) × (dropped 1 9999 ≡ rear) × (dropped 1 2147483647 ≡ neither)
unfolding sum distance saturating before equal after changed_in
drop-end = (refl, refl, refl, refl)

-- at the tie, 2^30 from the front: a number there is before the front, so a request to it gives up nothing and one from it all; one nearer it is after all that is held
pub drop-tie : (dropped 2147483647 1073741822 ≡ neither) × (dropped 2147483647 1073741821 ≡ both) × (dropped 1073741823 1 ≡ both) × (dropped 1073741822 1 ≡ neither)
unfolding sum distance saturating before equal after changed_in
drop-tie = (refl, refl, refl, refl)
