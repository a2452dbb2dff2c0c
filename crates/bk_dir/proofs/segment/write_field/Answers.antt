use Rattle.std.proofs.Common.{◌-◌, ◌*◌, ◌/◌, ◌%◌, ◌^◌, refl, arith}
use Rattle.bk_dir.proofs.Words.{is-written}
use Rattle.bk_dir.proofs.segment.write_field.Goals as goal

pub overflow_sub-words : goal.overflow_sub-words
overflow_sub-words c =
    (is-written c.args.words.now c.args.field c.args.way c.place_of-place.result c.last_place-next.result c.shift_of-from.result
    c.part-old.result c.above.result (c.args.field / 2 ^ (64 - c.shift_of-from.result))
    (c.part-old.result * 2 ^ c.shift_of-from.result % 2 ^ 64) (c.args.field * 2 ^ c.shift_of-from.result % 2 ^ 64)
    (record { five = c.told-words; small = c.fits-words }) c.requires.field c.requires.way c.place_of-place.ensures.value
    c.last_place-next.ensures.value c.shift_of-from.ensures.value c.part-old.ensures c.above.ensures refl refl refl).high-room

pub overflow_add-words : goal.overflow_add-words
overflow_add-words c =
    let room = is-written c.args.words.now c.args.field c.args.way c.place_of-place.result c.last_place-next.result c.shift_of-from.result
    c.part-old.result c.above.result c.above-2.result
    (c.part-old.result * 2 ^ c.shift_of-from.result % 2 ^ 64) (c.args.field * 2 ^ c.shift_of-from.result % 2 ^ 64)
    (record { five = c.told-words; small = c.fits-words }) c.requires.field c.requires.way c.place_of-place.ensures.value
    c.last_place-next.ensures.value c.shift_of-from.ensures.value c.part-old.ensures c.above.ensures c.above-2.ensures refl refl in
    omega (arith, room.high-fits)

pub overflow_sub-words-2 : goal.overflow_sub-words-2
overflow_sub-words-2 c =
    (is-written c.args.words.now c.args.field c.args.way c.place_of-place.result c.last_place-next.result c.shift_of-from.result
    c.part-old.result c.above.result c.above-2.result c.below.result (c.args.field * 2 ^ c.shift_of-from.result % 2 ^ 64)
    (record { five = c.told-words; small = c.fits-words }) c.requires.field c.requires.way c.place_of-place.ensures.value
    c.last_place-next.ensures.value c.shift_of-from.ensures.value c.part-old.ensures c.above.ensures c.above-2.ensures
    c.below.ensures refl).low-room

pub overflow_add-words-2 : goal.overflow_add-words-2
overflow_add-words-2 c =
    let room = is-written c.args.words.now c.args.field c.args.way c.place_of-place.result c.last_place-next.result c.shift_of-from.result
    c.part-old.result c.above.result c.above-2.result c.below.result c.below-2.result
    (record { five = c.told-words; small = c.fits-words }) c.requires.field c.requires.way c.place_of-place.ensures.value
    c.last_place-next.ensures.value c.shift_of-from.ensures.value c.part-old.ensures c.above.ensures c.above-2.ensures
    c.below.ensures c.below-2.ensures in
    omega (arith, room.low-fits)

pub returns : goal.returns
returns c =
    (is-written c.args.words.now c.args.field c.args.way c.place_of-place.result c.last_place-next.result c.shift_of-from.result
    c.part-old.result c.above.result c.above-2.result c.below.result c.below-2.result
    (record { five = c.told-words; small = c.fits-words }) c.requires.field c.requires.way c.place_of-place.ensures.value
    c.last_place-next.ensures.value c.shift_of-from.ensures.value c.part-old.ensures c.above.ensures c.above-2.ensures
    c.below.ensures c.below-2.ensures).number
