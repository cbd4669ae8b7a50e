use Rattle.goo_notice.specs.RegisterDevice.{register_device_of}
use Rattle.goo_desk_body.proofs.Steps.{ends, past}
use Rattle.goo_desk_body.proofs.register_device.register_device.Goals as goal

pub returns-in_err-of_device_size : goal.returns-in_err-of_device_size
unfolding register_device_of
returns-in_err-of_device_size c = ends _ _ _ _ c.from_residual.ensures.1 c.in_err-of_device_size.ensures

pub returns-in_err-account : goal.returns-in_err-account
unfolding register_device_of
returns-in_err-account c = past _ _ _ _ c.in_ok-of_device_size.ensures (ends _ _ _ _ c.from_residual-in_err-account.ensures.1 c.in_err-account.ensures)

pub returns-in_err-capacity_w : goal.returns-in_err-capacity_w
unfolding register_device_of
returns-in_err-capacity_w c = past _ _ _ _ c.in_ok-of_device_size.ensures (past _ _ _ _ c.in_ok-account.ensures (ends _ _ _ _ c.from_residual-in_err-capacity_w.ensures.1 c.in_err-capacity_w.ensures))

pub returns-in_err-carrier : goal.returns-in_err-carrier
unfolding register_device_of
returns-in_err-carrier c = past _ _ _ _ c.in_ok-of_device_size.ensures (past _ _ _ _ c.in_ok-account.ensures (past _ _ _ _ c.in_ok-capacity_w.ensures (ends _ _ _ _ c.from_residual-in_err-carrier.ensures.1 c.in_err-carrier.ensures)))

pub returns-in_err-commissioned : goal.returns-in_err-commissioned
unfolding register_device_of
returns-in_err-commissioned c = past _ _ _ _ c.in_ok-of_device_size.ensures (past _ _ _ _ c.in_ok-account.ensures (past _ _ _ _ c.in_ok-capacity_w.ensures (past _ _ _ _ c.in_ok-carrier.ensures (ends _ _ _ _ c.from_residual-in_err-commissioned.ensures.1 c.in_err-commissioned.ensures))))

pub returns-in_err-country : goal.returns-in_err-country
unfolding register_device_of
returns-in_err-country c = past _ _ _ _ c.in_ok-of_device_size.ensures (past _ _ _ _ c.in_ok-account.ensures (past _ _ _ _ c.in_ok-capacity_w.ensures (past _ _ _ _ c.in_ok-carrier.ensures (past _ _ _ _ c.in_ok-commissioned.ensures (ends _ _ _ _ c.from_residual-in_err-country.ensures.1 c.in_err-country.ensures)))))

pub returns-in_err-device : goal.returns-in_err-device
unfolding register_device_of
returns-in_err-device c = past _ _ _ _ c.in_ok-of_device_size.ensures (past _ _ _ _ c.in_ok-account.ensures (past _ _ _ _ c.in_ok-capacity_w.ensures (past _ _ _ _ c.in_ok-carrier.ensures (past _ _ _ _ c.in_ok-commissioned.ensures (past _ _ _ _ c.in_ok-country.ensures (ends _ _ _ _ c.from_residual-in_err-device.ensures.1 c.in_err-device.ensures))))))

pub returns-in_err-site : goal.returns-in_err-site
unfolding register_device_of
returns-in_err-site c = past _ _ _ _ c.in_ok-of_device_size.ensures (past _ _ _ _ c.in_ok-account.ensures (past _ _ _ _ c.in_ok-capacity_w.ensures (past _ _ _ _ c.in_ok-carrier.ensures (past _ _ _ _ c.in_ok-commissioned.ensures (past _ _ _ _ c.in_ok-country.ensures (past _ _ _ _ c.in_ok-device.ensures (ends _ _ _ _ c.from_residual-in_err-site.ensures.1 c.in_err-site.ensures)))))))

pub returns-in_err-source : goal.returns-in_err-source
unfolding register_device_of
returns-in_err-source c = past _ _ _ _ c.in_ok-of_device_size.ensures (past _ _ _ _ c.in_ok-account.ensures (past _ _ _ _ c.in_ok-capacity_w.ensures (past _ _ _ _ c.in_ok-carrier.ensures (past _ _ _ _ c.in_ok-commissioned.ensures (past _ _ _ _ c.in_ok-country.ensures (past _ _ _ _ c.in_ok-device.ensures (past _ _ _ _ c.in_ok-site.ensures (ends _ _ _ _ c.from_residual-in_err-source.ensures.1 c.in_err-source.ensures))))))))

pub returns-in_err-support : goal.returns-in_err-support
unfolding register_device_of
returns-in_err-support c = past _ _ _ _ c.in_ok-of_device_size.ensures (past _ _ _ _ c.in_ok-account.ensures (past _ _ _ _ c.in_ok-capacity_w.ensures (past _ _ _ _ c.in_ok-carrier.ensures (past _ _ _ _ c.in_ok-commissioned.ensures (past _ _ _ _ c.in_ok-country.ensures (past _ _ _ _ c.in_ok-device.ensures (past _ _ _ _ c.in_ok-site.ensures (past _ _ _ _ c.in_ok-source.ensures (ends _ _ _ _ c.from_residual-in_err-support.ensures.1 c.in_err-support.ensures)))))))))

pub returns-in_err-tech : goal.returns-in_err-tech
unfolding register_device_of
returns-in_err-tech c = past _ _ _ _ c.in_ok-of_device_size.ensures (past _ _ _ _ c.in_ok-account.ensures (past _ _ _ _ c.in_ok-capacity_w.ensures (past _ _ _ _ c.in_ok-carrier.ensures (past _ _ _ _ c.in_ok-commissioned.ensures (past _ _ _ _ c.in_ok-country.ensures (past _ _ _ _ c.in_ok-device.ensures (past _ _ _ _ c.in_ok-site.ensures (past _ _ _ _ c.in_ok-source.ensures (past _ _ _ _ c.in_ok-support.ensures (ends _ _ _ _ c.from_residual-in_err-tech.ensures.1 c.in_err-tech.ensures))))))))))
