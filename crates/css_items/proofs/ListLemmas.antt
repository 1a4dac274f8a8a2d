-- A list read from left to right, item by item.
use Rattle.std.proofs.Common.{◌≡◌, ◌∙◌, Bool, true, false, cond, List, [], ◌∷◌, Result, Ok, Err, refl, ap, sym, append-nil, map}
use Rattle.css_words.specs.declared.fault.ValueFault.{ValueFault}
use Rattle.css_words.specs.declared.fault.ValueFault.TheVariants.{BadValue, OverLimit, NoMemory}
use Rattle.css_words.specs.Words.{Word}
use Rattle.css_items.specs.Lists.{with_item, Gives, pieces, gather}
use Rattle.css_items.specs.ListReading.{resumed, Adds}

-- an item that was added counts before the others
pub item_added : {A : Type 0} (spelled : Result A ValueFault) (others : Result (List A) ValueFault) (old new : List A) (was_over over : Bool)
    (read : Result A ValueFault) (done : Unit {0}) → Gives read spelled → Adds old was_over new over read (Ok done)
    → resumed old was_over (with_item spelled others) ≡ resumed new over others
item_added spelled others old new was_over over (Ok value) done gives adds = rw gives (adds others)
item_added spelled others old new was_over over (Err BadValue) done gives adds = rw gives (adds others)
item_added spelled others old new was_over over (Err OverLimit) done gives adds = rw gives (adds others)
item_added spelled others old new was_over over (Err NoMemory) done gives adds = absurd (let e = adds (Err BadValue) in cc)

-- an item that ends the reading makes the list what it is
pub item_refused : {A : Type 0} (spelled : Result A ValueFault) (others : Result (List A) ValueFault) (old new : List A) (was_over over : Bool)
    (read : Result A ValueFault) (fault : ValueFault) → Gives read spelled → Adds old was_over new over read (Err fault)
    → Gives {A = List A} (Err fault) (resumed old was_over (with_item spelled others))
item_refused spelled others old new was_over over (Err BadValue) BadValue gives adds = rw gives refl
item_refused spelled others old new was_over over (Ok value) BadValue gives adds = absurd (cc)
item_refused spelled others old new was_over over (Err OverLimit) BadValue gives adds = absurd (cc)
item_refused spelled others old new was_over over (Err NoMemory) BadValue gives adds = absurd (cc)
item_refused spelled others old new was_over over read OverLimit gives adds = absurd adds
item_refused spelled others old new was_over over read NoMemory gives adds = tt

-- with no others the list is what was read
pub all_added : {A : Type 0} (items : List A) (over : Bool) → cond over (Err OverLimit) (Ok items) ≡ resumed items over (Ok [])
all_added items true = refl
all_added items false = ap (λ t. Ok t) (sym (append-nil items))

pub gives_same : {A : Type 0} (found spelled : Result A ValueFault) → found ≡ spelled → Gives found spelled
gives_same (Ok value) spelled e = sym e
gives_same (Err BadValue) spelled e = sym e
gives_same (Err OverLimit) spelled e = sym e
gives_same (Err NoMemory) spelled e = tt

-- the last item ends the list
pub last_item : {A : Type 0} (item : List Word → Result A ValueFault) (words piece : List Word) (old new : List A) (was_over over : Bool)
    (read : Result A ValueFault) (found whole : Result (List A) ValueFault) → pieces false words ≡ piece ∷ [] → Gives read (item piece)
    → Adds old was_over new over read (Ok tt) → found ≡ cond over (Err OverLimit) (Ok new)
    → resumed old was_over (gather (map item (pieces false words))) ≡ whole → Gives found whole
last_item item words piece old new was_over over read found whole last gives adds is so_far =
    gives_same found whole
    (is ∙ all_added new over ∙ sym (item_added (item piece) (Ok []) old new was_over over read tt gives adds)
    ∙ sym (ap (λ t. resumed old was_over (gather (map item t))) last) ∙ so_far)
