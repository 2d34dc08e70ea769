use Rattle.sat_solve.proofs.order.Order.sift_up.Given as goal

abbrev pub decreases-loop-place : goal.decreases-loop-place
decreases-loop-place l = l.place
