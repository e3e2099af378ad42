-- The starred readings of the scope of work, A58023E0 as request Two amends it, as one statement over one table of cases, by computation.
use Rattle.std.proofs.Common.{ℕ, ◌+◌, ◌-◌, ◌^◌, List, [], ◌∷◌, ◌++◌, refl}
use Rattle.ground.specs.Lists.{replaced}
use Rattle.ground.specs.Sizes.{size_of}
use Rattle.words.specs.Dtypes.{dtypes, dtype_of}
use Rattle.words.specs.Families.{scalar_of, families, read_of}
use Rattle.memory.specs.Addresses.{moved_of}
use Rattle.memory.specs.Areas.{is_area_accepted, share_none, are_areas_accepted, covers, place_of}
use Rattle.memory.specs.Bytes.{judged, look_of}
use Rattle.memory.specs.Elements.{reading_of}
use Rattle.steps.specs.Benches.{is_accepted}
use Rattle.steps.specs.Terms.{signed4}
use Rattle.steps.specs.Plans.{spread_of}
use Rattle.steps.specs.Lanes.{governing_bytes, bit_of, is_active, wanted, asked, lane_takes, checks_stack, lane_element, destinations_in, destination_of, element_at}
use Rattle.steps.specs.Outcomes.{answers_in, survey_of, extended, lane_value, register_byte, register_of, vectors_after, base_after, scalars_after, bench_after, outcome_of}
use Rattle.steps.specs.Step.{stack_fails, refusals, planned_load, planned_of, prepared_of, step_of}
use Rattle.readings.proofs.Cases.{StarredCase, Ended, is_right, registers, old_z, all_active, none_active, only, ◌≔◌, sp, pc, zone_with, empty, page, all_on}
use Rattle.readings.proofs.Cases.{sve_off, simd_off, f64mm_and_sve_off, set_up_with, ran_with, ran, faults, refuses, rising, eight, zeros, nines, copies, plain}
use Rattle.readings.proofs.Tests.{ended}
use Rattle.readings.proofs.Tables.{EachOf, each_of}

-- the starred rows, in the order of the scope of work
abbrev starred : List StarredCase
starred =
    -- bytes 01..08, P0 bits 0 and 16: lanes 0 and 2 hold 01..08, 1 and 3 zero; count 1
    ran 0x85C0E000 (set_up_with (all_on 256) (only 256 0 (1 ∷ 0 ∷ 1 ∷ 0 ∷ [])) (page eight) empty (0 ≔ 4096 ∷ []))
    1 0 (eight ++ zeros 8 ++ eight ++ zeros 8) []
    -- byte 80: eight lanes FF80
    ∷ ran 0x85C0C000 (set_up_with (all_on 128) (all_active 128) (page (0x80 ∷ [])) empty (0 ≔ 4096 ∷ [])) 1 0 (copies 8 (0x80 ∷ 0xFF ∷ [])) []
    -- lane 0 at X0 - 2,048, and each of the 32 lanes 8 bytes further than the one before
    ∷ ran 0xA5E8A000 (set_up_with (all_on 2048) (all_active 2048) (page (rising 0 256)) empty (0 ≔ 6144 ∷ [])) 32 0 (rising 0 256) []
    -- X1 = 2^61 + 2: lane 0 at X0 + 16
    ∷ ran 0xA5E14000 (set_up_with (all_on 128) (all_active 128) (page (nines 16 ++ rising 1 16)) empty (0 ≔ 4096 ∷ 1 ≔ (2 ^ 61 + 2) ∷ []))
    2 0 (rising 1 16) []
    -- an SVE scalar form with Rm = 31
    ∷ refuses 0xA5FF4000 (plain (all_on 256)) 3
    -- 32 bytes, then 16 zeros
    ∷ ran 0xA5A02000 (plain (all_on 384)) 4 0 (rising 1 32 ++ zeros 16) []
    -- VL 128, SVE on / off
    ∷ refuses 0xA5A02000 (plain (all_on 128)) 3
    ∷ refuses 0xA5A02000 (plain (sve_off 128)) 4
    -- X0 doubles
    ∷ ran 0x4DC0C000 (plain (all_on 256)) 1 0 (copies 16 (1 ∷ []) ++ zeros 16) (0 ≔ 8192 ∷ [])
    -- S=1, and L=0
    ∷ refuses 0x4D40D000 (plain (all_on 256)) 3
    ∷ refuses 0x4D00C000 (plain (all_on 256)) 3
    -- SP = 8, only lane 2 active, which is no lane of the block: "ran, Z0 zero, count 0" in document 01, and 5 as request Two amends it
    ∷ refuses 0xA58023E0 (set_up_with (all_on 256) (only 256 0 (0 ∷ 0 ∷ 1 ∷ 0 ∷ [])) (page eight) empty (0 ≔ 4096 ∷ sp ≔ 8 ∷ [])) 5
    -- flash at 0 of 8,192 bytes, page 1 denied (every bit of its rights but bit 0 is set), X0 = 4,084, lanes 0 and 1 active
    ∷ faults 0xA5E0A000 (set_up_with (all_on 256) (only 256 0 (1 ∷ 1 ∷ 0 ∷ 0 ∷ [])) (zone_with 0 (nines 8192) (1 ∷ 254 ∷ [])) empty (0 ≔ 4084 ∷ []))
    7 1 1 4096
    ∷ []

-- 64 bits of the element a, a + 1, over and over, in a register of 256
abbrev halves : ℕ → List ℕ
halves a = copies 4 (rising a 2) ++ zeros 24

-- rows of our own, each with wrong definitions that it refuses
abbrev ours : List StarredCase
ours =
    -- LD1SB {Z31.S}, P7/Z, [X30, #1, MUL VL] at VL 256, so N = 8 and m = 1: lane e at X30 + 8 + e. Lanes 1 and 6 are active (bits 4
    -- and 24); of lanes 0, 2, 3, 4, 5 and 7 every other bit of the group is set. Refused: any bit of the group makes a lane active; the
    -- immediate counts active lanes, bytes of one lane, or lanes that are as wide in memory as in the register; an SVE load asks the
    -- SIMD switch; P0 or Z0 whichever register is named.
    ran 0xA5A1BFDF
    (set_up_with (simd_off 256) (only 256 7 (0x1E ∷ 0xEE ∷ 0xEE ∷ 0xE1 ∷ []))
    (page (nines 8 ++ (0x11 ∷ 0x92 ∷ 0x13 ∷ 0x14 ∷ 0x15 ∷ 0x16 ∷ 0x17 ∷ 0x18 ∷ []) ++ nines 32)) empty (30 ≔ 4096 ∷ []))
    2 31 (zeros 4 ++ (0x92 ∷ 0xFF ∷ 0xFF ∷ 0xFF ∷ []) ++ zeros 16 ++ (0x17 ∷ 0 ∷ 0 ∷ 0 ∷ []) ++ zeros 4) []
    -- LD1H {Z4.D}, P0/Z, [X1, X2, LSL #1] with X2 = 3: lane e at X1 + (3 + e) × 2. Lane 0, inactive, lies in RAM's only page, which is
    -- denied; lane 1 in flash, right behind it. Refused: Xm scaled by the lane; a whole vector fetched and then masked; an extension
    -- with the sign where the row has no s.
    ∷ ran 0xA4E24024
    (set_up_with (all_on 128) (only 128 0 (0 ∷ 1 ∷ [])) (page (0x33 ∷ 0x84 ∷ nines 30)) (zone_with 0 (nines 4096) (0 ∷ [])) (1 ≔ 4088 ∷ 2 ≔ 3 ∷ []))
    1 4 (zeros 8 ++ (0x33 ∷ 0x84 ∷ zeros 6)) []
    -- LD1R {V5.4H}, [X1] with SVE off and no predicate bit set. Refused: Q=0 keeps the upper part, or fills 128 bits; LD1R asks the SVE
    -- switch, or a predicate.
    ∷ ran 0x0D40C425 (set_up_with (sve_off 256) (none_active 256) (page (0x34 ∷ 0x12 ∷ nines 14)) empty (1 ≔ 4096 ∷ []))
    1 5 (copies 4 (0x34 ∷ 0x12 ∷ []) ++ zeros 24) []
    -- LD1R {V0.16B}, [X0] with SIMD off, SVE on. Refused: LD1R asks no switch, or the SVE switch.
    ∷ refuses 0x4D40C000 (plain (simd_off 256)) 4
    -- LD1D, lanes 0 and 2 active over 20 bytes of flash: lane 2 is bytes 16 to 23, of which byte 20 is the first bad one. Refused: lane 0
    -- is already written; the count is the lane's number; the address is the element's.
    ∷ faults 0xA5E0A000 (set_up_with (all_on 256) (only 256 0 (1 ∷ 0 ∷ 1 ∷ 0 ∷ [])) (page (rising 1 20)) empty (0 ≔ 4096 ∷ [])) 6 1 2 4116
    -- LD1RSW {Z2.D}, P3/Z, [X6, #12], lanes 1 and 3 active: its four bytes are the last two of flash, which ends at 2^64, and the first
    -- two of RAM, at 0. Refused: addresses that wrap for an element and not for its bytes; an element looked up in one area; an area
    -- that must end below 2^64; imm6 scaled by the lane; a read only if lane 0 is active.
    ∷ ran 0x84C38CC2
    (set_up_with (all_on 256) (only 256 3 (0 ∷ 1 ∷ 0 ∷ 1 ∷ [])) (zone_with (2 ^ 64 - 4096) (nines 4094 ++ (0x01 ∷ 0x02 ∷ [])) (1 ∷ []))
    (zone_with 0 (0x03 ∷ 0x84 ∷ nines 30) (255 ∷ [])) (6 ≔ (2 ^ 64 - 14) ∷ []))
    1 2 (copies 2 (zeros 8 ++ (0x01 ∷ 0x02 ∷ 0x03 ∷ 0x84 ∷ 0xFF ∷ 0xFF ∷ 0xFF ∷ 0xFF ∷ []))) []
    -- LD1R {V7.2D}, [SP], #8 with PC = 2^64 - 4. Refused: post-index 31 adds a scalar, nothing, or the bytes filled; PC is not taken modulo
    -- 2^64.
    ∷ ran 0x4DDFCFE7 (set_up_with (all_on 128) (none_active 128) (page eight) empty (sp ≔ 4096 ∷ pc ≔ (2 ^ 64 - 4) ∷ []))
    1 7 (copies 2 eight) (sp ≔ 4104 ∷ pc ≔ 0 ∷ [])
    -- LD1R {V0.16B}, [SP], SP = 4,104 in readable memory, no predicate bit set. Refused: SP a multiple of 8; LD1R checks SP by a predicate.
    ∷ refuses 0x4D40C3E0 (set_up_with (all_on 128) (none_active 128) (page (rising 1 16)) empty (sp ≔ 4104 ∷ [])) 5
    -- A58023E0 again, lane 1 active, which is the block's. Refused: no check of SP but for LD1R; a check that asks lane 0
    -- alone, or the lanes past the block alone.
    ∷ refuses 0xA58023E0 (set_up_with (all_on 256) (only 256 0 (0 ∷ 1 ∷ 0 ∷ 0 ∷ [])) (page (rising 1 32)) empty (sp ≔ 4104 ∷ [])) 5
    -- .. and with every bit of P0 set but the lanes' first, SP = 8. Refused: any bit of the predicate counts; a block load always checks.
    ∷ ran 0xA58023E0 (set_up_with (all_on 256) (only 256 0 (0xFE ∷ 0xFE ∷ 0xFE ∷ 0xFE ∷ [])) (page eight) empty (sp ≔ 8 ∷ [])) 0 0 (zeros 32) []
    -- .. and lanes 2 and 3 active, SP = 16, where no memory is. Refused: a lane past the block is read, or is filled by its own bit.
    ∷ ran 0xA58023E0 (set_up_with (all_on 256) (only 256 0 (0 ∷ 0 ∷ 1 ∷ 1 ∷ [])) (page eight) empty (sp ≔ 16 ∷ [])) 0 0 (zeros 32) []
    -- LD1ROB {Z0.B}, P0/Z, [SP] at VL 384, SP = 8, lane 47 alone active: the last of the 16 that one block of 32 leaves over. Refused: a check
    -- that asks whole blocks alone; one that asks lanes of 16 bits or more, whatever the lane size.
    ∷ refuses 0xA42023E0 (set_up_with (all_on 384) (only 384 0 (0 ∷ 0 ∷ 0 ∷ 0 ∷ 0 ∷ 0x80 ∷ [])) (page (rising 1 32)) empty (sp ≔ 8 ∷ [])) 5
    -- .. and all lanes active at VL 128, or with SVE off. Refused: the stack rule comes before short VL, or before the switch.
    ∷ refuses 0xA42023E0 (set_up_with (all_on 128) (all_active 128) (page (rising 1 32)) empty (sp ≔ 4104 ∷ [])) 3
    ∷ refuses 0xA42023E0 (set_up_with (sve_off 256) (all_active 256) (page (rising 1 32)) empty (sp ≔ 4104 ∷ [])) 4
    -- LD1RQD {Z0.D}, P0/Z, [X15] with X15 = 4,104 and SP = 8. Refused: SP is checked, or must the base be a multiple of 16, whatever the base.
    ∷ ran 0xA58021E0 (set_up_with (all_on 256) (all_active 256) (page (nines 8 ++ rising 1 16)) empty (15 ≔ 4104 ∷ sp ≔ 8 ∷ []))
    2 0 (copies 2 (rising 1 16)) []
    -- LD1RQW {Z8.S}, P2/Z, [X3, #-16] at VL 384: lane 2 of the block is inactive; of its copies, lanes 6 and 10 have their bit set and lanes
    -- 4, 5, 7, 8, 9 and 11 have not. Refused: a copy's lane asks its own bit; an inactive lane keeps its value; the immediate counts
    -- elements or vectors.
    ∷ ran 0xA50F2868
    (set_up_with (all_on 384) (only 384 2 (0x11 ∷ 0x10 ∷ 0x00 ∷ 0x01 ∷ 0x00 ∷ 0x01 ∷ [])) (page (rising 1 16)) empty (3 ≔ 4112 ∷ []))
    3 8 (copies 3 (rising 1 8 ++ zeros 4 ++ rising 13 4)) []
    -- LD1ROH {Z9.H}, P1/Z, [X3, X2, LSL #1] with X2 = 2 at VL 512: the block lies at X3 + 4. Refused: Xm counts blocks, or bytes.
    ∷ ran 0xA4A20469 (set_up_with (all_on 512) (all_active 512) (page (nines 4 ++ rising 1 32)) empty (2 ≔ 2 ∷ 3 ≔ 4096 ∷ []))
    16 9 (copies 2 (rising 1 32)) []
    -- LD1RO without F64MM, SVE off. Refused: the switch is asked before F64MM is.
    ∷ refuses 0xA5A02000 (plain (f64mm_and_sve_off 256)) 3
    -- LD4R {V30.4H, V31.4H, V0.4H, V1.4H}, [SP], #8. Refused: one read is added; the elements go to the registers from the last on, or
    -- one of them to all; 31 is followed by none; a register beside the four changes.
    ∷ ran_with 0x0DFFE7FE (set_up_with (all_on 256) (none_active 256) (page eight) empty (sp ≔ 4096 ∷ []))
    4 (halves 5 ++ halves 7 ++ registers (old_z 256) 2 28 ++ halves 1 ++ halves 3) (sp ≔ 4104 ∷ [])
    -- LD2R with S=1. Refused: S=1 is undefined of LD1R alone.
    ∷ refuses 0x4D60D000 (plain (all_on 256)) 3
    ∷ []

abbrev pub table : List StarredCase
table = starred ++ ours

pub readings : EachOf Ended table
unfolding replaced size_of dtypes dtype_of scalar_of families read_of moved_of is_area_accepted share_none are_areas_accepted covers place_of judged look_of reading_of
    is_accepted signed4 spread_of governing_bytes bit_of is_active wanted asked lane_takes lane_element destinations_in destination_of element_at answers_in survey_of extended lane_value register_byte register_of
    vectors_after base_after scalars_after bench_after outcome_of checks_stack stack_fails refusals planned_load planned_of prepared_of step_of
readings = each_of Ended is_right ended table refl
