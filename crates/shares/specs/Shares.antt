-- A share: how many there are, and how many of them agree.
use Rattle.std.specs.Prelude.{if◌then◌else◌, ℕ, ◌+◌, ◌%◌, ◌^◌, ◌≡◌, Bool, List, ◌++◌, codes}
use Rattle.std.specs.Fmt.{decimal}
use Rattle.shares.specs.declared.Share.{Share}

-- one more, which agrees or does not
abbrev pub counted : Share → Bool → Share
counted s agrees = record { agree = (s.agree + (if agrees then 1 else 0)) % 2 ^ 64; all = (s.all + 1) % 2 ^ 64 }

-- how it is printed, as `3 of 4`
abbrev pub text_of : Share → List ℕ
text_of s = decimal s.agree ++ codes " of " ++ decimal s.all

-- what `Share::count` promises
abbrev pub CountPromise : Share → Bool → Share → Type 0
CountPromise s agrees s' = s' ≡ counted s agrees
