use Rattle.std.proofs.Common.{ap, not, refl, sym, ◌∙◌}
use Rattle.sound.specs.KeyedLaws.{keys_gone}
use Rattle.sound.specs.LegLaws.{places_gone}
use Rattle.sound.specs.CheckedLaws.{head_broken, room_broken, few_held, few_paired, rows_broken, legs_broken, walkable, lots_broken, walk_whole}
use Rattle.sound.proofs.walked_book.Goals as goal

pub returns-then-not-head_sound : goal.returns-then-not-head_sound
returns-then-not-head_sound c = c.not_walked.ensures ∙ head_broken _ (sym c.head_sound.ensures ∙ c.if-not-head_sound.true)

pub returns-then-not-room_sound : goal.returns-then-not-room_sound
returns-then-not-room_sound c = c.not_walked-then-not-room_sound.ensures ∙ room_broken _ (sym c.head_sound.ensures ∙ c.if-not-head_sound.false) c.room_sound.ensures (ap not c.if-not-room_sound.true)

pub keys_of-requires : goal.keys_of-requires
keys_of-requires c = few_held c.args.b (sym c.head_sound.ensures ∙ c.if-not-head_sound.false) c.room_sound.ensures (ap not c.if-not-room_sound.false)

pub returns-in_default : goal.returns-in_default
returns-in_default c = c.not_walked-in_default.ensures ∙ rows_broken _ (sym c.head_sound.ensures ∙ c.if-not-head_sound.false) c.room_sound.ensures (ap not c.if-not-room_sound.false) c.keys_of.ensures (keys_gone c.keys_of.result c.in_default.not-Some)

pub places_of-requires : goal.places_of-requires
places_of-requires c = few_paired c.args.b (sym c.head_sound.ensures ∙ c.if-not-head_sound.false) c.room_sound.ensures (ap not c.if-not-room_sound.false)

pub returns-in_default-places_of : goal.returns-in_default-places_of
returns-in_default-places_of c = c.not_walked-in_default-places_of.ensures ∙ legs_broken _ (sym c.head_sound.ensures ∙ c.if-not-head_sound.false) c.room_sound.ensures (ap not c.if-not-room_sound.false) (rw c.in-Some.is at c.keys_of.ensures) refl c.places_of.ensures (places_gone c.places_of.result c.in_default-places_of.not-Some)

pub free_lots-c-requires : goal.free_lots-c-requires
free_lots-c-requires c = walkable c.args.b (sym c.head_sound.ensures ∙ c.if-not-head_sound.false) c.room_sound.ensures (ap not c.if-not-room_sound.false) (rw c.in-Some.is at c.keys_of.ensures) refl (rw c.in-Some-places_of.is at c.places_of.ensures) refl

pub returns-then-not-c : goal.returns-then-not-c
returns-then-not-c c = c.not_walked-then-not-c.ensures ∙ lots_broken _ (sym c.head_sound.ensures ∙ c.if-not-head_sound.false) c.room_sound.ensures (ap not c.if-not-room_sound.false) (rw c.in-Some.is at c.keys_of.ensures) refl (rw c.in-Some-places_of.is at c.places_of.ensures) refl c.free_lots-c.ensures c.if-not-c.true

pub returns : goal.returns
returns c = walk_whole _ (sym c.head_sound.ensures ∙ c.if-not-head_sound.false) c.room_sound.ensures (ap not c.if-not-room_sound.false) (rw c.in-Some.is at c.keys_of.ensures) refl (rw c.in-Some-places_of.is at c.places_of.ensures) refl c.free_lots-c.ensures c.if-not-c.false
