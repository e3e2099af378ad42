-- docs/CASES.md, "A case": the head, field by field, and "Bad input". All numbers are little-endian.
use Rattle.std.specs.Prelude.{ℕ, ◌+◌, ◌*◌, ◌/◌, ◌%◌, ◌^◌, ◌≡◌, Bool, not, ◌||◌, List, [], ◌∷◌, eqb, ltb, length, Result, Ok, Err}
use Rattle.ground.specs.Choices.{◌⇒◌, first_of}
use Rattle.ground.specs.Lists.{bytes_at}
use Rattle.cases.specs.Parts.{carried, head_bytes, case_bytes}
use Rattle.cases.specs.declared.heads.Numbers.{Numbers}
use Rattle.cases.specs.declared.heads.Question.{Question}
use Rattle.cases.specs.declared.heads.Question.TheVariants.{Step, Address, Lane}
use Rattle.cases.specs.declared.heads.Case.{Case}
use Rattle.cases.specs.declared.heads.Part.TheVariants as Part
use Rattle.cases.specs.declared.heads.Refusal.{Refusal}
use Rattle.cases.specs.declared.heads.Refusal.TheVariants.{Ends, Magic, Flags, Kind, Level, Long}
use Rattle.cases.specs.declared.heads.Opened.{Opened}

-- 4B 4B 4A 31, "KKJ1"
abbrev pub magic : ℕ
magic = 75 + 256 * (75 + 256 * (74 + 256 * 49))

-- "flags": "bit 0 SIMD on, bit 1 SVE on, bit 2 F64MM present; bits 8 to 15 the kind of question, 0 for one step; other bits zero"
abbrev pub flags_in : List ℕ → ℕ
flags_in s = bytes_at s 8 4

abbrev pub flag_of : ℕ → ℕ → Bool
flag_of flags k = eqb (flags / 2 ^ k % 2) 1

abbrev pub kind_of : ℕ → ℕ
kind_of flags = flags / 2 ^ 8 % 2 ^ 8

-- a bit of 3 to 7 or of 16 to 31 is set, which means nothing
unfoldable pub strange_flag : ℕ → Bool
strange_flag flags = ltb 7 (flags % 2 ^ 8) || ltb 65535 flags

-- "a kind that means nothing (yet)": those that are here are 0, one step, and 2 and 3, the windows
unfoldable pub strange_kind : ℕ → Bool
strange_kind kind = eqb kind 1 || ltb 3 kind

-- what is asked: the kind, and of one other than 0 the numbers a0 to a3 and the blob's length; no other kind begins a case
abbrev pub question_with : ℕ → Numbers → Question
question_with kind n = first_of ((eqb kind 0 ⇒ Step) ∷ (eqb kind 2 ⇒ Address n) ∷ []) (Lane n)

unfoldable pub numbers_of : List ℕ → Numbers
numbers_of s =
    record { a0 = bytes_at s 96 8; a1 = bytes_at s 104 8; a2 = bytes_at s 112 8; a3 = bytes_at s 120 8; blob = bytes_at s 128 8 }

unfoldable pub question_of : List ℕ → Question
question_of s = question_with (kind_of (flags_in s)) (numbers_of s)

-- what a head says, in the order of the table
unfoldable pub head_of : List ℕ → Case
head_of s =
    record {
      word = bytes_at s 4 4;
      settings = record { vl = bytes_at s 16 8; simd = flag_of (flags_in s) 0; sve = flag_of (flags_in s) 1; f64mm = flag_of (flags_in s) 2 };
      map = record { flash = record { 0 = bytes_at s 24 8 }; ram = record { 0 = bytes_at s 32 8 } };
      vectors = bytes_at s 40 8;
      predicates = bytes_at s 48 8;
      scalars = bytes_at s 56 8;
      flash = bytes_at s 64 8;
      flash_rights = bytes_at s 72 8;
      ram = bytes_at s 80 8;
      ram_rights = bytes_at s 88 8;
      question = question_of s;
    }

-- "z to 65,536 bytes, p to 4,096, x to 128 numbers, areas to 131,072 bytes each, rights to 64 bytes each", "a blob: 65,536"
unfoldable pub limited : Case → Result Opened Refusal
limited c =
    first_of
    ((ltb 65536 c.vectors ⇒ Err (Long Part.Vectors))
    ∷ (ltb 4096 c.predicates ⇒ Err (Long Part.Predicates))
    ∷ (ltb 128 c.scalars ⇒ Err (Long Part.Scalars))
    ∷ (ltb 131072 c.flash ⇒ Err (Long Part.Flash))
    ∷ (ltb 64 c.flash_rights ⇒ Err (Long Part.FlashRights))
    ∷ (ltb 131072 c.ram ⇒ Err (Long Part.Ram))
    ∷ (ltb 64 c.ram_rights ⇒ Err (Long Part.RamRights))
    ∷ (ltb 65536 (carried c.question).blob ⇒ Err (Long Part.Blob))
    ∷ [])
    (Ok (record { case = c; whole = case_bytes c }))

-- of 96 bytes that begin with the magic: "a flag bit or a kind that means nothing (yet), a level whose layout the program does not have
-- yet", the longer head of a kind other than 0, "or a length over these". The layout of the levels 0 to 4 is the one that is here.
unfoldable pub marked_of : List ℕ → Result Opened Refusal
marked_of s =
    first_of
    ((strange_flag (flags_in s) ⇒ Err Flags)
    ∷ (strange_kind (kind_of (flags_in s)) ⇒ Err Kind)
    ∷ (ltb 4 (bytes_at s 12 4) ⇒ Err Level)
    ∷ (ltb (length s) (head_bytes (kind_of (flags_in s))) ⇒ Err Ends)
    ∷ [])
    (limited (head_of s))

-- "A stream that ends inside a case, a wrong magic", or the first of these
unfoldable pub opened_of : List ℕ → Result Opened Refusal
opened_of s =
    first_of
    ((ltb (length s) 4 ⇒ Err Ends)
    ∷ (not (eqb (bytes_at s 0 4) magic) ⇒ Err Magic)
    ∷ (ltb (length s) 96 ⇒ Err Ends)
    ∷ [])
    (marked_of s)

-- what `head` promises: what the bytes open with
abbrev pub HeadPromise : List ℕ → Result Opened Refusal → Type 0
HeadPromise s r = r ≡ opened_of s
