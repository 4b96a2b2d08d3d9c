-- The buffers have the sizes that `print_input` asks for, and the bytes that are written are the listing.
use Rattle.std.proofs.Common.{◌≡◌, ℕ, List, None, Some, IfSome, OnOk, Result, Ok, Err, sym, subst}
use Rattle.std.specs.declared.option.Option.{Option}
use Rattle.std.specs.Io.KnownBytes.{Appends}
use lib.Seq.{length-take-le}
use Rattle.listing.specs.Listing.{listing_of, ReadOf}
use Rattle.listing.proofs.Whole.{printed_fits, printed_text}
use Rattle.list.proofs.print_archive.Goals as goal

pub slice_bounds-out-end : goal.slice_bounds-out-end
slice_bounds-out-end g c =
    let p = c.print_input-length in
    printed_fits _ _ _ _ _ c.in_ok-n.ensures.inside p.auto.out p.ensures

pub slice_bounds-write_listing-end : goal.slice_bounds-write_listing-end
slice_bounds-write_listing-end g c =
    let p = c.print_input-length in
    sym (length-take-le _ _ (printed_fits _ _ _ _ _ c.in_ok-n.ensures.inside p.auto.out p.ensures))

pub write_listing-requires : goal.write_listing-requires
write_listing-requires g c =
    let p = c.print_input-length in
    printed_text _ _ _ _ _ c.in_ok-n.ensures.inside p.auto.out p.ensures

-- the text is the listing of the whole, where that is known
printed : {U E : Type 0} (r : Result U E) (known before after : Option (List ℕ)) (buffer text : List ℕ) (n : ℕ) → IfSome known (λ whole. ReadOf buffer n whole)
    → ((whole : List ℕ) → ReadOf buffer n whole → text ≡ listing_of whole) → OnOk r (Appends before after text)
    → OnOk r (IfSome known (λ whole. Appends before after (listing_of whole)))
printed (Err e) known before after buffer text n h t w = tt
printed (Ok u) None before after buffer text n h t w = tt
printed (Ok u) (Some whole) before after buffer text n h t w = subst (Appends before after) (t whole h) w

pub returns : goal.returns
returns g c =
    let p = c.print_input-length in
    printed _ _ _ _ _ _ _ c.in_ok-n.ensures.whole (printed_text _ _ _ _ _ c.in_ok-n.ensures.inside p.auto.out p.ensures) c.write_listing.ensures
