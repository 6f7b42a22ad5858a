use Rattle.scope.specs.GuestPageFault.{page_fault_of}
use Rattle.in_place_start.proofs.page_fault.Goals as goal

pub returns : goal.returns
unfolding page_fault_of
returns c = simp (c.from_htinst.ensures, c.guest_page_fault_addr-at.ensures) at c.do_mmio.ensures
