-- 02, 'Places by agreement': the rules that figures keep, those of a book and those that are to be set.
use Rattle.std.specs.Prelude.{Bool, ◌&&◌, ℕ, leb, eqb, length}
use Rattle.octets.specs.FirstToLast.{holds_all}
use Rattle.book.specs.Figures.{shippers, over_shippers, reserve_in, ceiling_in}
use Rattle.book.specs.declared.Figures.{Figures}

-- 'reserve 1 to 13, ceiling from that reserve to 16'
unfoldable pub is_share : ℕ → ℕ → Bool
is_share reserve ceiling = leb 1 reserve && (leb reserve 13 && (leb reserve ceiling && leb ceiling 16))

-- a shipper's own two
unfoldable pub is_share_at : Figures → ℕ → Bool
is_share_at figures shipper = is_share (reserve_in figures shipper) (ceiling_in figures shipper)

-- every shipper's
unfoldable pub are_shares : Figures → Bool
are_shares figures = holds_all (is_share_at figures) shippers 0

-- Each shipper's two figures, and 'reserves adding up to at most 16'. The record has the shape that every machine gives it: a reserve and a
-- ceiling for each shipper.
unfoldable pub keep_rules : Figures → Bool
keep_rules figures =
    eqb (length figures.reserves) shippers
    && (eqb (length figures.ceilings) shippers
    && (are_shares figures && leb (over_shippers (reserve_in figures)) 16))
