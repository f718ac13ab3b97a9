-- docs/LINES.md: 'Numbers are decimal, with `-` before a negative one.' `0` is byte 48 and `-` byte 45.
use Rattle.std.specs.Prelude.{Bool, cond, ◌&&◌, ◌||◌, List, [], ◌∷◌, ◌++◌, ℕ, zero, suc, ◌+◌, ◌*◌, ◌-◌, ◌/◌, ◌%◌, leb, ltb, eqb, ℤ, pos, negsuc, length, get_or, drop, Some, None, Option}

-- a digit's number; 10 for any other byte
unfoldable pub digit_of : ℕ → ℕ
digit_of b = cond (leb 48 b && leb b 57) (b - 48) 10

-- the number that digits make behind a number so far; none where a byte is no digit
unfoldable pub go_on : ℕ → List ℕ → Option ℕ
go_on v [] = Some v
go_on v (b ∷ w) = cond (leb (digit_of b) 9) (go_on (10 * v + digit_of b) w) None

-- no byte at all, or a zero before further digits
unfoldable pub is_ill_led : List ℕ → Bool
is_ill_led w = eqb (length w) 0 || (ltb 1 (length w) && eqb (get_or w 0 0) 48)

-- '`0`, or a digit 1 to 9 followed by digits'
unfoldable pub whole_of : List ℕ → Option ℕ
whole_of w = cond (is_ill_led w) None (go_on 0 w)

-- the number, where it is at most the most that its operand's type holds
unfoldable pub up_to : ℕ → Option ℕ → Option ℕ
up_to most None = None
up_to most (Some v) = cond (leb v most) (Some v) None

unfoldable pub number_of : ℕ → List ℕ → Option ℕ
number_of most w = up_to most (whole_of w)

-- 'a `-` may stand before one that is not zero'
unfoldable pub negated : Option ℕ → Option ℤ
negated None = None
negated (Some zero) = None
negated (Some (suc k)) = Some (negsuc k)

unfoldable pub as_it_is : Option ℕ → Option ℤ
as_it_is None = None
as_it_is (Some v) = Some (pos v)

-- 16 bits with a sign
unfoldable pub signed_of : List ℕ → Option ℤ
signed_of w = cond (eqb (get_or w 0 0) 45) (negated (number_of 32768 (drop 1 w))) (as_it_is (number_of 32767 w))

-- a number's decimal digits, the fewest that hold it, of at most k
unfoldable pub digits_to : ℕ → ℕ → List ℕ
digits_to zero n = []
digits_to (suc k) n = cond (ltb n 10) ((48 + n) ∷ []) (digits_to k (n / 10) ++ ((48 + n % 10) ∷ []))

-- 64 bits take at most 20 digits
unfoldable pub printed : ℕ → List ℕ
printed n = digits_to 20 n
